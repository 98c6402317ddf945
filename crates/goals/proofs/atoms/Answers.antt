use Rattle.std.proofs.Common.{◌≡◌}
use Rattle.model.specs.Result.{Ok}
use Rattle.model.proofs.Results.{stopped}
use Rattle.paths.proofs.Found.{value_read, error_read}
use Rattle.goals.proofs.Settling.{none_passed, all_passed, atom_unread, atom_asks, atom_stopped, atom_passed}
use Rattle.goals.proofs.atoms.Goals as goal
use Rattle.goals.proofs.atoms.Goals.{In_ok-read}

-- the atom that is read
atom_is : (c : In_ok-read) → c.atom-found.result ≡ Ok c.in_ok-read.read
atom_is c = value_read _ _ _ c.in_ok-read.ensures.cases (λ e h. h)

pub loop-init : goal.loop-init
loop-init c = none_passed c.requires.going

pub returns-in_err-read : goal.returns-in_err-read
returns-in_err-read c =
    rw (stopped _ _ c.from_residual.ensures.1)
    (atom_unread c.loop.invariant c.loop-test.true c.source-source.ensures c.atom-found.ensures.grown c.atom-found.ensures.answer (error_read _ c.in_err-read.ensures.variant))

pub goal-requires : goal.goal-requires
goal-requires c =
    let h = atom_asks c.loop.invariant c.loop-test.true c.source-source.ensures c.atom-found.ensures.grown c.atom-found.ensures.answer (atom_is (goal.at.goal-requires c).In_ok-read) c.atom-found.auto.ws c.raised.ensures in
    record { going = h.0; claim_in = h.1 }

pub returns-in_err-after : goal.returns-in_err-after
returns-in_err-after c =
    rw (stopped _ _ c.from_residual-in_err-after.ensures.1)
    (atom_stopped c.loop.invariant c.loop-test.true c.source-source.ensures c.atom-found.ensures.grown c.atom-found.ensures.answer (atom_is (goal.at.returns-in_err-after c).In_ok-read) c.atom-found.auto.ws c.raised.ensures c.in_err-after.ensures)

pub loop-preserved : goal.loop-preserved
loop-preserved c =
    atom_passed c.loop.invariant c.loop-test.true c.source-source.ensures c.atom-found.ensures.grown c.atom-found.ensures.answer (atom_is (goal.at.loop-preserved c).In_ok-read) c.atom-found.auto.ws c.raised.ensures c.in_ok-after.ensures c.goal.auto.ws

pub returns : goal.returns
returns c = all_passed c.loop.invariant c.loop-test.false
