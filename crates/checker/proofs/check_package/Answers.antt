use Rattle.model.proofs.Results.{stopped}
use Rattle.checker.proofs.Laws as laws
use Rattle.checker.proofs.check_package.Goals as goal

pub returns-in_err-routine : goal.returns-in_err-routine
returns-in_err-routine c = rw (stopped _ _ c.from_residual.ensures.1) (laws.header_stop _ _ _ c.in_err-routine.ensures.is)

pub returns-in_err-check_code : goal.returns-in_err-check_code
returns-in_err-check_code c = rw (stopped _ _ c.from_residual-in_err-check_code.ensures.1) (laws.code_stop _ _ _ c.in_ok-routine.ensures.is _ (rw c.in_ok-routine.ensures.whole at c.in_err-check_code.ensures))

pub returns : goal.returns
returns c = laws.annotations_checked _ _ _ c.in_ok-routine.ensures.is (rw c.in_ok-routine.ensures.whole at c.in_ok-check_code.ensures) _ (rw c.in_ok-routine.ensures.whole at c.check_annotations.ensures)
