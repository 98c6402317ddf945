use Rattle.claims.proofs.StepLaws.{steps}
use Rattle.model.specs.Rule.{premises, sum_of}
use Rattle.std.proofs.Common.{◌<◌}
use native.Mathlib.Omega.{arith}
use Rattle.claims.proofs.PlanLaws.{fits, formed_at, kept_term, two_put}
use Rattle.arithmetic_rules.proofs.no_overflow.Goals as goal

pub operands-requires : goal.operands-requires
operands-requires c = formed_at c.requires.formed (c.in_ok-a.ensures.below _ c.requires.claim_below).1

pub equal-requires : goal.equal-requires
equal-requires c = grind (arith, c.in_ok-a.ensures.below c.args.plan.now.top)

pub put_pair-requires-clause-parts_below : goal.put_pair-requires-clause-parts_below
put_pair-requires-clause-parts_below c =
    let j = c.in_ok-a.ensures.below _ c.requires.claim_below in
    omega (arith, c.in_ok-p.ensures.below)

pub returns : goal.returns
unfolding premises sum_of
returns c =
    let j = c.in_ok-a.ensures.below _ c.requires.claim_below in
    let below : c.in_ok-p.b < c.args.plan.now.top = omega (arith, c.in_ok-p.ensures.below) in
    let m = two_put c.put_constant.ensures c.put_pair.ensures in
    fits m (rw c.new.ensures at c.ask.ensures) (omega arith)
    (λ policy g _. grind (arith, steps, kept_term m.kept j.0, kept_term c.put_constant.ensures.kept below))
