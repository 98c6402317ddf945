use Rattle.expressions.proofs.ReadingLaws as laws
use Rattle.model.proofs.Results.{stopped}
use Rattle.expressions.proofs.expression.Goals as goal

pub returns-in_err-scanned-clause-ends : goal.returns-in_err-scanned-clause-ends
returns-in_err-scanned-clause-ends c = rw (stopped _ _ c.from_residual.ensures.1) (laws.expression_stops _ _ _ _ _ c.in_err-scanned.ensures.scanned)

pub returns-clause-ends : goal.returns-clause-ends
returns-clause-ends c = laws.expression_read _ _ _ _ _ c.in_ok-scanned.ensures.scanned
