use Rattle.nodes.proofs.Table.{put_node}
use native.Mathlib.Omega.{arith}
use Rattle.terms.proofs.put.Goals as goal

pub returns : goal.returns
returns c = put_node c.requires.formed c.requires.space c.requires.fits c.requires.half c.find-first.ensures (omega arith) c.store_node.ensures
