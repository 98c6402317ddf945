use native.Mathlib.Omega.{arith}
use Rattle.moves.proofs.Assigning.{constant_built, built_assigns}
use Rattle.moves.proofs.assignments.set.Goals as goal

pub returns : goal.returns
returns c = built_assigns c.requires.room_for c.keep_constant.auto.ws c.requires.register (omega arith) (constant_built c.requires.room_for.path_in c.keep_constant.auto.ws c.keep_constant.ensures) c.raised.ensures c.assign.ensures
