use native.Mathlib.Omega.{arith}
use Rattle.logic_rules.proofs.reflexive.Goals as goal

pub equal-requires : goal.equal-requires
equal-requires c = grind (arith, c.in_ok-a.ensures.below c.args.plan.now.top)
