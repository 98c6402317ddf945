use Rattle.moves.proofs.Assigning.{built_with}
use Rattle.moves.proofs.assignments.put_with.Goals as goal

pub returns : goal.returns
returns c = built_with c.requires.room_for.path_in c.put_constant.auto.ws c.put_pair.auto.ws c.args.operation c.requires.register c.node.ensures c.put_constant.ensures c.put_pair.ensures
