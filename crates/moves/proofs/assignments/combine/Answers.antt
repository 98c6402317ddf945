use native.Mathlib.Omega.{arith}
use Rattle.moves.proofs.Assigning.{pair_built, built_assigns}
use Rattle.moves.proofs.assignments.combine.Goals as goal

pub returns : goal.returns
returns c = built_assigns c.requires.room_for c.keep_pair.auto.ws c.requires.registers.0 (omega arith) (pair_built c.requires.room_for.path_in c.keep_pair.auto.ws c.requires.registers.1 c.node.ensures c.requires.registers.2 c.node-2.ensures c.args.operation c.keep_pair.ensures) c.raised.ensures c.assign.ensures
