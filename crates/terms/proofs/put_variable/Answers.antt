use Rattle.terms.proofs.NewNodes.{fits_variable}
use Rattle.terms.proofs.put_variable.Goals as goal

pub put-requires-clause-fits : goal.put-requires-clause-fits
put-requires-clause-fits c = fits_variable _ _ c.requires.known c.facts.ensures.value
