use Rattle.nodes.proofs.Table.{marks_here}
use Rattle.nodes.proofs.Facts.{size_most}
use Rattle.nodes.proofs.at_most.Goals as goal

pub returns : goal.returns
returns c = rw (c.size.ensures.0, c.marks.ensures) (size_most _ _ (marks_here c.requires.formed.shaped).facts _ c.requires.below_cap)
