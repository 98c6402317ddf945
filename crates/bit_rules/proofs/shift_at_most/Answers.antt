use Rattle.claims.proofs.PlanLaws.{formed_at}
use native.Mathlib.Omega.{arith}
use Rattle.bit_rules.proofs.shift_at_most.Goals as goal

pub shifted-requires : goal.shifted-requires
shifted-requires c = formed_at c.requires.formed (c.in_ok-left.ensures.below _ c.requires.claim_below).0

pub equal-requires : goal.equal-requires
equal-requires c = grind (arith, c.in_ok-left.ensures.below c.args.plan.now.top)
