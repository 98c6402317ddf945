use Rattle.logic_rules.specs.Sides.{through_premises}
use native.Mathlib.Omega.{arith}
use Rattle.claims.proofs.StepLaws.{steps}
use Rattle.logic_rules.proofs.through.Goals as goal

pub returns : goal.returns
unfolding through_premises
returns c = grind (arith, steps, c.in_ok-a.ensures.below c.args.plan.now.top)
