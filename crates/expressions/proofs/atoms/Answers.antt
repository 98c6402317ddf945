use Rattle.expressions.proofs.ReadingLaws as laws
use Rattle.model.proofs.Results.{stopped}
use Rattle.expressions.proofs.atoms.Goals as goal

pub returns-in_err-next-clause-ends : goal.returns-in_err-next-clause-ends
returns-in_err-next-clause-ends c =
    rw (stopped _ _ c.from_residual.ensures.1) (laws.atoms_stop _ _ _ _ _ _ _ c.loop.invariant c.loop-test.true _ c.in_err-next.ensures.ends)

pub loop-preserved : goal.loop-preserved
loop-preserved c = laws.going_on _ _ _ _ _ _ _ c.loop.invariant c.loop-test.true _ c.in_ok-next.ensures.ends c.in_ok-next.ensures.inside

pub returns-clause-ends : goal.returns-clause-ends
returns-clause-ends c = laws.atoms_read _ _ _ _ _ _ _ c.loop.invariant c.loop-test.false
