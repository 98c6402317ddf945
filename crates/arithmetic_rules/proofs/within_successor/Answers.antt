use Rattle.claims.proofs.StepLaws.{steps}
use Rattle.model.specs.Rule.{premises}
use native.Mathlib.Omega.{arith}
use Rattle.claims.proofs.PlanLaws.{fits, kept_term, two_put}
use Rattle.arithmetic_rules.proofs.within_successor.Goals as goal

pub put_pair-requires-clause-parts_below : goal.put_pair-requires-clause-parts_below
put_pair-requires-clause-parts_below c = let j = c.in_ok-a.ensures.below _ c.requires.claim_below in omega arith

pub returns : goal.returns
unfolding premises
returns c =
    let j = c.in_ok-a.ensures.below _ c.requires.claim_below in
    let m = two_put c.put_constant.ensures c.put_pair.ensures in
    fits m (rw c.new.ensures at c.ask.ensures) (omega arith)
    (λ policy g _. grind (arith, steps, kept_term m.kept j.0, kept_term c.put_constant.ensures.kept j.1))
