use Rattle.terms.proofs.NewNodes.{computed_pair, computed_none}
use Rattle.terms.proofs.computed.Goals as goal

pub returns-then-valued : goal.returns-then-valued
returns-then-valued c = computed_pair c.requires.left_formed c.requires.right_formed c.args.operation c.requires.holds c.if-valued.true c.value.ensures c.value-then-valued.ensures c.applied.ensures

pub returns : goal.returns
returns c = computed_none c.requires.left_formed c.requires.right_formed c.args.operation c.requires.holds c.if-valued.false
