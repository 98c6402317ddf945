use Rattle.blocks.proofs.Starting.{started}
use Rattle.blocks.proofs.start.Goals as goal

pub returns : goal.returns
returns c = started c.requires c.variables.ensures c.args.index
