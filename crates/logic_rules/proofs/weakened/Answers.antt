use Rattle.logic_rules.specs.Sides.{weakened_premises}
use native.Mathlib.Omega.{arith}
use Rattle.claims.proofs.StepLaws.{steps}
use Rattle.logic_rules.proofs.weakened.Goals as goal

pub returns : goal.returns
unfolding weakened_premises
returns c = grind (arith, steps, c.in_ok-a.ensures.below c.args.plan.now.top)
