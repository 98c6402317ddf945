use Rattle.jumps.proofs.Jumping.{edge_made}
use Rattle.jumps.proofs.edge.Goals as goal

pub returns : goal.returns
returns c = edge_made c.requires.room_for c.stepped.ensures c.assuming.ensures
