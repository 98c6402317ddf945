use Rattle.model.proofs.Results.{stopped}
use Rattle.arrivals.proofs.Arriving.{first_asks, credits_stopped, second_asks, credits_judged}
use Rattle.arrivals.proofs.credits.Goals as goal

pub goal-requires : goal.goal-requires
goal-requires c = let h = first_asks c.requires.going c.requires.credit_in c.requires.owed_in c.put_constant.ensures c.put_constant.auto.ws c.put_pair.ensures c.put_pair.auto.ws c.raised-inner.ensures in record { going = h.0; claim_in = rw c.new.ensures h.1 }

pub returns-in_err-after : goal.returns-in_err-after
returns-in_err-after c = rw (stopped _ _ c.from_residual.ensures.1) (credits_stopped c.requires.going c.requires.credit_in c.requires.owed_in c.put_constant.ensures c.put_constant.auto.ws c.put_pair.ensures c.put_pair.auto.ws c.raised-inner.ensures (rw c.new.ensures at c.in_err-after.ensures))

pub goal-requires-2 : goal.goal-requires-2
goal-requires-2 c = let h = second_asks c.requires.going c.requires.credit_in c.requires.owed_in c.put_constant.ensures c.put_constant.auto.ws c.put_pair.ensures c.put_pair.auto.ws c.raised-inner.ensures (rw c.new.ensures at c.in_ok-after.ensures) c.goal.auto.ws in record { going = h.0; claim_in = rw c.new-2.ensures h.1 }

pub returns : goal.returns
returns c = credits_judged c.requires.going c.requires.credit_in c.requires.owed_in c.put_constant.ensures c.put_constant.auto.ws c.put_pair.ensures c.put_pair.auto.ws c.raised-inner.ensures (rw c.new.ensures at c.in_ok-after.ensures) c.goal.auto.ws (rw c.new-2.ensures at c.goal-2.ensures)
