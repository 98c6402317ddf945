use Rattle.nodes.proofs.Table.{marks_here}
use Rattle.nodes.proofs.Facts.{closed_at}
use Rattle.nodes.proofs.closed.Goals as goal

pub returns : goal.returns
returns c = rw (c.flagged.ensures, c.marks.ensures) (closed_at (marks_here c.requires.shaped))
