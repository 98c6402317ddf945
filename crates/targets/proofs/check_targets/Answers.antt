use native.Mathlib.Omega.{arith}
use Rattle.model.proofs.Results.{stopped}
use Rattle.targets.proofs.Jumps.{targets_more, targets_refused, targets_done}
use Rattle.targets.proofs.check_targets.Goals as goal

pub returns-in_err-check_target : goal.returns-in_err-check_target
returns-in_err-check_target c = rw (stopped _ _ c.from_residual.ensures.1) (targets_refused _ _ _ _ c.loop-index.invariant c.loop-index-test.true _ c.check_target.ensures _ c.in_err-check_target.was)

pub loop-index-preserved : goal.loop-index-preserved
loop-index-preserved c = targets_more _ _ _ _ c.loop-index.invariant c.loop-index-test.true _ c.check_target.ensures c.in_ok-check_target.was

pub returns : goal.returns
returns c = targets_done _ _ _ _ c.loop-index.invariant (omega arith)
