use Rattle.checker.proofs.Fills as fills
use Rattle.checker.proofs.clear_area.Goals as goal

pub returns : goal.returns
returns c = fills.front_cleared c.args.workspace.now _ c.requires c.clear.ensures
