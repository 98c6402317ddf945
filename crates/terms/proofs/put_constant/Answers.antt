use native.Mathlib.Omega.{arith}
use Rattle.terms.proofs.NewNodes.{fits_constant}
use Rattle.terms.proofs.put_constant.Goals as goal

pub put-requires-clause-fits : goal.put-requires-clause-fits
put-requires-clause-fits c = fits_constant _ _ (omega arith) c.facts.ensures.value
