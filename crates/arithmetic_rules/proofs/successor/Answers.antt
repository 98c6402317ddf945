use Rattle.claims.proofs.StepLaws.{steps}
use Rattle.model.specs.Rule.{premises, sum_of}
use native.Mathlib.Omega.{arith}
use Rattle.claims.proofs.PlanLaws.{formed_at}
use Rattle.nodes.proofs.Table.{part}
use Rattle.arithmetic_rules.proofs.successor.Goals as goal

pub operands-requires : goal.operands-requires
operands-requires c = formed_at c.requires.formed (c.in_ok-left.ensures.below _ c.requires.claim_below).0

pub is_constant-requires : goal.is_constant-requires
is_constant-requires c = part (formed_at c.requires.formed (c.in_ok-left.ensures.below _ c.requires.claim_below).0) c.in_ok-a.ensures.below.1

pub returns-then-is_constant : goal.returns-then-is_constant
unfolding premises sum_of
returns-then-is_constant c = grind (arith, steps, c.in_ok-left.ensures.below c.args.plan.now.top)
