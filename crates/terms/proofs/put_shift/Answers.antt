use Rattle.terms.proofs.NewNodes.{fits_shift, put_as_shift}
use Rattle.terms.proofs.put_shift.Goals as goal

pub put-requires-clause-fits : goal.put-requires-clause-fits
put-requires-clause-fits c = fits_shift c.requires.formed c.requires.few c.requires.part_below c.marks-a.ensures c.high.ensures c.flagged.ensures c.size.ensures.0 c.facts-facts.ensures.value

pub returns : goal.returns
returns c = put_as_shift c.requires.formed c.requires.few c.requires.part_below c.marks-a.ensures c.high.ensures c.flagged.ensures c.size.ensures.0 c.facts-facts.ensures.value c.put.ensures
