use Rattle.model.proofs.Results.{stopped}
use Rattle.arrivals.proofs.Arriving.{covers_asks, covers, returning_stopped, returning_asks, returning_judged}
use Rattle.arrivals.proofs.returning.Goals as goal

pub returns-in_err-after : goal.returns-in_err-after
returns-in_err-after c = rw (stopped _ _ c.from_residual.ensures.1) (returning_stopped c.requires.going c.requires.credit_in c.in_err-after.ensures)

pub put_constant-requires-clause-formed : goal.put_constant-requires-clause-formed
put_constant-requires-clause-formed c = (returning_asks c.requires.going c.requires.credit_in c.in_ok-after.ensures c.atoms.auto.ws).0.inside.prepared.formed

pub goal-requires : goal.goal-requires
goal-requires c = let h = let g = returning_asks c.requires.going c.requires.credit_in c.in_ok-after.ensures c.atoms.auto.ws in covers_asks g.0 g.1 c.put_constant.ensures c.put_constant.auto.ws c.raised-inner.ensures in record { going = h.0; claim_in = rw c.new.ensures h.1 }

pub returns : goal.returns
returns c = let g = returning_asks c.requires.going c.requires.credit_in c.in_ok-after.ensures c.atoms.auto.ws in returning_judged c.requires.going c.requires.credit_in c.in_ok-after.ensures (covers g.0 g.1 c.put_constant.ensures c.put_constant.auto.ws c.raised-inner.ensures (rw c.new.ensures at c.goal.ensures))
