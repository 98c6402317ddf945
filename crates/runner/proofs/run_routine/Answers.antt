use native.Mathlib.Omega.{arith}
use Rattle.runner.proofs.run_routine.Goals as goal

pub run_in-requires-clause-room : goal.run_in-requires-clause-room
run_in-requires-clause-room c = omega arith

pub run_in-requires-2-clause-room : goal.run_in-requires-2-clause-room
run_in-requires-2-clause-room c = omega (arith, c.args.routine.now.fits.few)
