use Rattle.terms.proofs.NewNodes.{kept_node}
use Rattle.terms.proofs.keep.Goals as goal

pub returns : goal.returns
returns c = kept_node c.requires c.parts-parts.ensures c.value-value.ensures c.marks.ensures c.low-facts.ensures c.recall-first.ensures c.recall-first.auto.ws c.store_node.ensures
