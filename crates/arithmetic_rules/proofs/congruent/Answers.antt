use Rattle.claims.proofs.StepLaws.{steps}
use Rattle.model.specs.Rule.{premises}
use native.Mathlib.Omega.{arith}
use Rattle.arithmetic_rules.proofs.congruent.Goals as goal

pub same_operation-requires : goal.same_operation-requires
same_operation-requires c = grind (arith, c.in_ok-left.ensures.below c.args.plan.now.top)

pub returns-in-Pairs : goal.returns-in-Pairs
unfolding premises
returns-in-Pairs c = grind (arith, steps, c.in_ok-left.ensures.below c.args.plan.now.top)

pub returns-in-Single : goal.returns-in-Single
unfolding premises
returns-in-Single c = grind (arith, steps, c.in_ok-left.ensures.below c.args.plan.now.top)
