use mathlib.Core.Path.{refl}
use Rattle.model.proofs.Results.{stopped}
use Rattle.setting.proofs.Fixing.{policy_fits}
use Rattle.checker.proofs.Laws as laws
use Rattle.checker.proofs.check_annotations.Goals as goal

pub returns-in_err-read : goal.returns-in_err-read
returns-in_err-read c = rw (stopped _ _ c.from_residual.ensures.1) (laws.annotations_stop _ _ _ _ c.in_err-read.ensures.is)

pub returns-in_err-check_targets : goal.returns-in_err-check_targets
returns-in_err-check_targets c = rw (stopped _ _ c.from_residual-in_err-check_targets.ensures.1) (laws.targets_stop _ _ _ _ c.in_ok-read.ensures.is c.in_ok-read.ensures.tabled _ (rw c.as_slice-annotations.ensures.same at c.in_err-check_targets.ensures) _ refl)

pub invariant_of-setting : goal.invariant_of-setting
invariant_of-setting c = record { policy_fits = policy_fits c.requires.checked; same_regions = c.as_slice.ensures.same }

pub returns : goal.returns
returns c = laws.evaluated _ _ c.evaluate.ensures (rw c.as_slice-annotations.ensures.same c.in_ok-read.ensures.is) (rw c.as_slice-annotations.ensures.same c.in_ok-read.ensures.tabled) c.in_ok-check_targets.ensures refl
