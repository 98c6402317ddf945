use Rattle.nodes.proofs.Table.{marks_here}
use Rattle.nodes.proofs.Facts.{plain_at}
use Rattle.nodes.proofs.plain.Goals as goal

pub returns : goal.returns
returns c = rw (c.flagged.ensures, c.marks.ensures) (plain_at (marks_here c.requires.shaped))
