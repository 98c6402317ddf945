use Rattle.terms.proofs.NewNodes.{holds_is, fits_pair, put_as_pair}
use Rattle.terms.proofs.put_pair.Goals as goal

pub computed-value-requires-clause-holds : goal.computed-value-requires-clause-holds
computed-value-requires-clause-holds c = holds_is c.requires.formed c.requires.parts_below c.args.operation c.marks-a.ensures c.marks-b.ensures c.flagged.ensures c.flagged-2.ensures c.is_linear.ensures c.flagged-3.ensures c.flagged-4.ensures

pub put-requires-clause-fits : goal.put-requires-clause-fits
put-requires-clause-fits c = fits_pair c.requires.formed c.requires.parts_below c.args.operation c.marks-a.ensures c.marks-b.ensures c.flagged.ensures c.flagged-2.ensures c.is_linear.ensures c.flagged-3.ensures c.flagged-4.ensures c.high.ensures c.high-2.ensures c.tag.ensures c.size.ensures.0 c.size-2.ensures.0 c.computed-value.ensures c.facts.ensures.value

pub returns : goal.returns
returns c = put_as_pair c.requires.formed c.requires.parts_below c.args.operation c.marks-a.ensures c.marks-b.ensures c.flagged.ensures c.flagged-2.ensures c.is_linear.ensures c.flagged-3.ensures c.flagged-4.ensures c.high.ensures c.high-2.ensures c.tag.ensures c.size.ensures.0 c.size-2.ensures.0 c.computed-value.ensures c.facts.ensures.value c.put.ensures
