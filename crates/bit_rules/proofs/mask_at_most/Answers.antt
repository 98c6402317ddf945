use Rattle.claims.proofs.PlanLaws.{formed_at}
use native.Mathlib.Omega.{arith}
use Rattle.bit_rules.proofs.mask_at_most.Goals as goal

pub operands-requires : goal.operands-requires
operands-requires c = formed_at c.requires.formed (c.in_ok-left.ensures.below _ c.requires.claim_below).0

pub equal-requires : goal.equal-requires
equal-requires c = grind (arith, c.in_ok-left.ensures.below c.args.plan.now.top)
