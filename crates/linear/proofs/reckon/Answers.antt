use native.Mathlib.Omega.{arith}
use Rattle.weights.proofs.Settling.{reckoned_plain, reckoned_settled}
use Rattle.linear.proofs.Laws.{second_tree, reckoned_trees}
use Rattle.linear.proofs.reckon.Goals as goal

pub accumulate-requires-then-plain-at_most : goal.accumulate-requires-then-plain-at_most
accumulate-requires-then-plain-at_most c = second_tree c.requires (grind arith) c.accumulate.ensures

pub returns-then-plain-at_most : goal.returns-then-plain-at_most
returns-then-plain-at_most c = reckoned_trees c.requires (grind arith) c.accumulate.ensures c.accumulate-then-plain-at_most.ensures

pub returns-then-plain : goal.returns-then-plain
returns-then-plain c = reckoned_plain c.reckon_by_table.ensures (grind arith)

pub returns : goal.returns
returns c = reckoned_settled c.reckon_by_table.ensures c.settle.ensures
