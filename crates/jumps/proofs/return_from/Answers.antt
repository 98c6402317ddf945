use Rattle.model.proofs.Results.{stopped}
use Rattle.jumps.proofs.Jumping.{return_ended, return_stopped}
use Rattle.jumps.proofs.return_from.Goals as goal

pub returns-in_err-after : goal.returns-in_err-after
returns-in_err-after c = rw (stopped _ _ c.from_residual.ensures.1) (return_stopped c.requires.room_for c.in_err-after.ensures)

pub returns : goal.returns
returns c = return_ended c.requires.room_for c.in_ok-after.ensures
