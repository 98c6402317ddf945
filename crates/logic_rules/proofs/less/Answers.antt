use Rattle.model.specs.Rule.{premises}
use native.Mathlib.Omega.{arith}
use Rattle.claims.proofs.StepLaws.{steps}
use Rattle.logic_rules.proofs.less.Goals as goal

pub returns : goal.returns
unfolding premises
returns c = grind (arith, steps, c.in_ok-a.ensures.below c.args.plan.now.top)
