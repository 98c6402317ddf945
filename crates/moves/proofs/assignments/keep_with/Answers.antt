use Rattle.moves.proofs.Assigning.{built_with}
use Rattle.moves.proofs.assignments.keep_with.Goals as goal

pub returns : goal.returns
returns c = built_with c.requires.room_for.path_in c.keep_constant.auto.ws c.keep_pair.auto.ws c.args.operation c.requires.register c.node.ensures c.keep_constant.ensures c.keep_pair.ensures
