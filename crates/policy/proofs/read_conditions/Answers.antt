use Rattle.model.proofs.Results.{stopped}
use Rattle.policy.proofs.ConditionsLaws as laws
use Rattle.policy.proofs.read_conditions.Goals as goal

pub returns-in_err-read_condition-clause-read : goal.returns-in_err-read_condition-clause-read
returns-in_err-read_condition-clause-read c = rw (stopped _ _ c.from_residual.ensures.1) (laws.first_stops _ _ _ _ c.in_err-read_condition.ensures.end)

pub returns-in_err-end-clause-read : goal.returns-in_err-end-clause-read
returns-in_err-end-clause-read c = rw (stopped _ _ c.from_residual-in_err-end.ensures.1) (laws.second_stops _ _ _ _ c.in_ok-read_condition.ensures.stands _ c.in_err-end.ensures.end)

pub returns-then-end-bytes-clause-read : goal.returns-then-end-bytes-clause-read
returns-then-end-bytes-clause-read c = laws.spare _ _ _ _ c.in_ok-read_condition.ensures.stands _ c.in_ok-end.ensures.stands c.if-end-bytes.true

pub returns-clause-read : goal.returns-clause-read
returns-clause-read c = laws.both _ _ _ _ c.in_ok-read_condition.ensures.stands _ c.in_ok-end.ensures.stands c.if-end-bytes.false
