use Rattle.model.proofs.Results.{stopped}
use Rattle.targets.proofs.Jumps.{target_passed, target_refused, no_refusal}
use Rattle.targets.proofs.check_target.Goals as goal

pub returns-in_err-instruction : goal.returns-in_err-instruction
returns-in_err-instruction c = rw (stopped _ _ c.from_residual.ensures.1) (no_refusal _ _ _ _ c.requires _ c.in_err-instruction.ensures.is)

pub returns-then-not-target_allowed : goal.returns-then-not-target_allowed
returns-then-not-target_allowed c = target_refused _ _ _ _ c.requires _ c.in_ok-instruction.ensures.is c.if-not-target_allowed.true c.target_allowed.ensures

pub returns : goal.returns
returns c = target_passed _ _ _ _ c.requires _ c.in_ok-instruction.ensures.is c.if-not-target_allowed.false c.target_allowed.ensures
