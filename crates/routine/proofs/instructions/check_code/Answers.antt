use native.Mathlib.Omega.{arith}
use Rattle.std.proofs.Common.{◌∙◌}
use Rattle.model.proofs.Results.{stopped}
use Rattle.routine.proofs.Codes.{check_start, check_more, check_refused, check_done}
use Rattle.routine.proofs.instructions.check_code.Goals as goal

pub loop-index-init : goal.loop-index-init
loop-index-init c = check_start _ _

pub loop-index-preserved : goal.loop-index-preserved
loop-index-preserved c = check_more _ _ _ c.loop-index.invariant c.loop-index-test.true _ c.in_ok-instruction.ensures.is

pub returns-in_err-instruction : goal.returns-in_err-instruction
returns-in_err-instruction c = stopped _ _ c.from_residual.ensures.1 ∙ check_refused _ _ _ c.loop-index.invariant c.loop-index-test.true _ c.in_err-instruction.ensures.is

pub returns : goal.returns
returns c = check_done _ _ _ c.loop-index.invariant (omega arith)
