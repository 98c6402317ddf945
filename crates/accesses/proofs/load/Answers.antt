use Rattle.model.proofs.Results.{stopped}
use Rattle.moves.proofs.PathLaws.{room_kept}
use Rattle.accesses.proofs.Accessing.{access_stopped, load_goes}
use Rattle.accesses.proofs.load.Goals as goal

pub returns-in_err-after : goal.returns-in_err-after
returns-in_err-after c = rw (stopped _ _ c.from_residual.ensures.1) (access_stopped _ c.in_err-after.ensures)

pub loaded-requires-clause-room_for : goal.loaded-requires-clause-room_for
loaded-requires-clause-room_for c = room_kept c.in_ok-after.ensures.kept c.address_goal.auto.ws c.requires.room_for

pub returns : goal.returns
returns c = load_goes c.in_ok-after.ensures c.requires.room_for c.loaded.ensures
