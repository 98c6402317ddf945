use native.Mathlib.Omega.{arith}
use Rattle.model.proofs.Results.{stopped}
use Rattle.routine.proofs.Codes.{read_start_lem, read_more, read_refused, read_done}
use Rattle.routine.proofs.instructions.read_code.Goals as goal

pub loop-index-init : goal.loop-index-init
loop-index-init c = read_start_lem _ _ _ c.requires

pub loop-index-preserved : goal.loop-index-preserved
loop-index-preserved c = read_more _ _ _ _ c.loop-index.invariant c.loop-index-test.true _ c.in_ok-lines.ensures.is c.in_ok-lines.ensures.formed

pub returns-in_err-lines-clause-is : goal.returns-in_err-lines-clause-is
returns-in_err-lines-clause-is c = rw (stopped _ _ c.from_residual.ensures.1) (read_refused _ _ _ _ c.loop-index.invariant c.loop-index-test.true _ c.in_err-lines.ensures.is)

pub returns-clause-is : goal.returns-clause-is
returns-clause-is c = read_done _ _ _ _ c.loop-index.invariant (omega arith)
