use native.Mathlib.Omega.{arith}
use Rattle.moves.proofs.Assigning.{built_assigns}
use Rattle.moves.proofs.assignments.combine_immediate.Goals as goal

pub returns : goal.returns
returns c = built_assigns c.requires.room_for c.keep_with.auto.ws c.requires.registers.0 (omega arith) c.keep_with.ensures c.raised.ensures c.assign.ensures
