use Rattle.blocks.proofs.Starting.{assumed}
use Rattle.blocks.proofs.assuming.Goals as goal

pub returns : goal.returns
returns c = assumed c.requires.path_in c.requires.room.0 c.push.ensures c.push.auto.ws
