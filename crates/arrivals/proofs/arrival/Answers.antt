use Rattle.std.proofs.Common.{◌≡◌}
use Rattle.model.specs.Result.{Ok}
use Rattle.model.proofs.Results.{stopped}
use Rattle.paths.proofs.Found.{value_read}
use Rattle.arrivals.proofs.Arriving.{arrival_asks, arrival_stopped, owed_asks, arrival_judged}
use Rattle.arrivals.proofs.arrival.Goals as goal
use Rattle.arrivals.proofs.arrival.Goals.{In_ok-owed}

-- the credit that is read
owed_is : (c : In_ok-owed) → c.expression-found.result ≡ Ok c.in_ok-owed.owed
owed_is c = value_read _ _ _ c.in_ok-owed.ensures.cases (λ e h. h)

pub atoms-requires-clause-going : goal.atoms-requires-clause-going
atoms-requires-clause-going c =
    arrival_asks c.args.at c.requires.going c.requires.credit_in c.source-source.ensures c.expression-found.auto.ws c.expression-found.ensures.grown c.expression-found.ensures.answer (owed_is (goal.at.atoms-requires-clause-going c).In_ok-owed) c.raised.ensures

pub returns-in_err-after : goal.returns-in_err-after
returns-in_err-after c =
    rw (stopped _ _ c.from_residual-in_err-after.ensures.1) (arrival_stopped c.args.at c.requires.going c.requires.credit_in c.source-source.ensures c.expression-found.auto.ws c.expression-found.ensures.grown c.expression-found.ensures.answer (owed_is (goal.at.returns-in_err-after c).In_ok-owed) c.raised.ensures c.from.ensures c.in_err-after.ensures)

pub credits-requires : goal.credits-requires
credits-requires c =
    let h = owed_asks c.args.at c.requires.going c.requires.credit_in c.source-source.ensures c.expression-found.auto.ws c.expression-found.ensures.grown c.expression-found.ensures.answer (owed_is (goal.at.credits-requires c).In_ok-owed) c.raised.ensures c.from.ensures c.in_ok-after.ensures c.atoms.auto.ws in
    record { going = h.0; credit_in = h.1.0; owed_in = h.1.1 }

pub returns : goal.returns
returns c =
    arrival_judged c.args.at c.requires.going c.requires.credit_in c.source-source.ensures c.expression-found.auto.ws c.expression-found.ensures.grown c.expression-found.ensures.answer (owed_is (goal.at.returns c).In_ok-owed) c.raised.ensures c.from.ensures c.in_ok-after.ensures c.atoms.auto.ws c.credits.ensures
