use native.Mathlib.Omega.{arith}
use Rattle.setting.proofs.Standing.{found_inside}
use Rattle.model.proofs.Results.{stopped}
use Rattle.jumps.proofs.Jumping.{found_before_proof, arrived_at, arrival_stopped, arrived_nowhere}
use Rattle.jumps.proofs.arrive.Goals as goal

pub returns-in_default : goal.returns-in_default
returns-in_default c = arrived_nowhere c.position.ensures c.in_default.is

pub offset_bounds-tables-k : goal.offset_bounds-tables-k
offset_bounds-tables-k c = omega (arith, found_inside c.args.tables.now.annotations_fit _ c.position.ensures c.in-Some.is, c.args.tables.now.annotations_fit.long, c.args.tables.now.routine.fits.noted)

pub bounds-tables-k : goal.bounds-tables-k
bounds-tables-k c = found_inside c.args.tables.now.annotations_fit _ c.position.ensures c.in-Some.is

pub arrival-requires-clause-end_in_bounds : goal.arrival-requires-clause-end_in_bounds
arrival-requires-clause-end_in_bounds c = rw (c.proof_start-end.ensures, c.grounds-grounds.ensures.0) (omega (arith, c.args.tables.now.routine.fits.whole), found_before_proof c.args.tables.now _ c.position.ensures c.in-Some.is _)

pub returns-in_err-after : goal.returns-in_err-after
returns-in_err-after c = rw (stopped _ _ c.from_residual.ensures.1) (arrival_stopped c.position.ensures c.in-Some.is _ (rw (c.proof_start-end.ensures, c.grounds-grounds.ensures.0, c.grounds-grounds.ensures.1) at c.in_err-after.ensures))

pub returns : goal.returns
returns c = arrived_at c.position.ensures c.in-Some.is _ (rw (c.proof_start-end.ensures, c.grounds-grounds.ensures.0, c.grounds-grounds.ensures.1) at c.in_ok-after.ensures)
