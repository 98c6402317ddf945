use native.Mathlib.Omega.{arith}
use Rattle.moves.proofs.Assigning.{shift_built, built_assigns}
use Rattle.moves.proofs.assignments.shift.Goals as goal

pub returns : goal.returns
returns c = built_assigns c.requires.room_for c.keep_shift.auto.ws c.requires.registers.0 (omega arith) (shift_built c.requires.room_for.path_in c.keep_shift.auto.ws c.requires.registers.1 c.node.ensures c.keep_shift.ensures) c.raised.ensures c.assign.ensures
