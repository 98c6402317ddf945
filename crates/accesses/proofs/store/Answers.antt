use Rattle.model.proofs.Results.{stopped}
use Rattle.accesses.proofs.Accessing.{access_stopped, store_goes}
use Rattle.accesses.proofs.store.Goals as goal

pub returns-in_err-after : goal.returns-in_err-after
returns-in_err-after c = rw (stopped _ _ c.from_residual.ensures.1) (access_stopped _ c.in_err-after.ensures)

pub returns : goal.returns
returns c = store_goes c.in_ok-after.ensures c.requires.room_for c.address_goal.auto.ws c.stepped.ensures
