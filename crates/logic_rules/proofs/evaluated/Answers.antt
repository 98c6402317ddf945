use native.Mathlib.Omega.{arith}
use Rattle.claims.proofs.StepLaws.{steps}
use Rattle.model.specs.Rule.{premises}
use Rattle.model.specs.Atom.{holds}
use Rattle.claims.proofs.PlanLaws.{formed_at}
use Rattle.logic_rules.proofs.evaluated.Goals as goal

pub evaluate-requires-clause-first_formed : goal.evaluate-requires-clause-first_formed
evaluate-requires-clause-first_formed c = formed_at c.requires.formed (c.in_ok-claimed.ensures.below _ c.requires.claim_below).0

pub evaluate-requires-clause-second_formed : goal.evaluate-requires-clause-second_formed
evaluate-requires-clause-second_formed c = formed_at c.requires.formed (c.in_ok-claimed.ensures.below _ c.requires.claim_below).1

pub returns : goal.returns
unfolding premises holds
returns c = grind (arith, steps)
