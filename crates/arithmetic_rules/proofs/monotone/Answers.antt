use Rattle.claims.proofs.StepLaws.{steps}
use native.Mathlib.Omega.{arith}
use Rattle.claims.proofs.PlanLaws.{fits, formed_at, stays}
use Rattle.arithmetic_rules.specs.Sides.{monotone_premises}
use Rattle.arithmetic_rules.proofs.ArithmeticLaws.{sum_is}
use Rattle.arithmetic_rules.proofs.monotone.Goals as goal

pub operands-requires : goal.operands-requires
operands-requires c = formed_at c.requires.formed (c.in_ok-left.ensures.below _ c.requires.claim_below).0

pub operands-requires-2 : goal.operands-requires-2
operands-requires-2 c = formed_at c.requires.formed (c.in_ok-left.ensures.below _ c.requires.claim_below).1

pub returns-in-Sum : goal.returns-in-Sum
unfolding monotone_premises
returns-in-Sum c =
    let j = c.in_ok-left.ensures.below _ c.requires.claim_below in
    let k = c.in_ok-a.ensures.below in
    let m = c.in_ok-c.ensures.below in
    fits (stays c.requires.formed) (rw (c.new-first.ensures, c.new.ensures, c.new-in-Sum.ensures) at c.ask.ensures) (omega arith)
    (λ policy g _. grind (arith, steps, sum_is _ (rw c.in-Sum.is at c.in_ok-c.ensures.is)))

pub returns-in-Difference : goal.returns-in-Difference
unfolding monotone_premises
returns-in-Difference c = grind (arith, steps, c.in_ok-left.ensures.below c.args.plan.now.top)
