use native.Mathlib.Omega.{arith}
use Rattle.claims.proofs.StepLaws.{steps}
use Rattle.model.specs.Rule.{premises}
use Rattle.assumptions.proofs.Laws.{listed_at, listed_past}
use Rattle.claims.proofs.PlanLaws.{formed_at}
use Rattle.logic_rules.proofs.assumed.Goals as goal

pub is_assumption-requires-clause-left_formed : goal.is_assumption-requires-clause-left_formed
is_assumption-requires-clause-left_formed c = formed_at c.requires.formed (c.in_ok-claimed.ensures.below _ c.requires.claim_below).0

pub is_assumption-requires-clause-right_formed : goal.is_assumption-requires-clause-right_formed
is_assumption-requires-clause-right_formed c = formed_at c.requires.formed (c.in_ok-claimed.ensures.below _ c.requires.claim_below).1

pub returns-then-count-index : goal.returns-then-count-index
unfolding premises
returns-then-count-index c = grind (arith, steps, listed_past)

pub returns : goal.returns
unfolding premises
returns c = grind (arith, steps, listed_at)
