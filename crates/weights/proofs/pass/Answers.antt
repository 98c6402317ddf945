use mathlib.Core.Path.{refl}
use native.Mathlib.Omega.{arith}
use Rattle.weights.proofs.Weights.{words_enough, order_here, passed_none, passed_valued, passed_constant, passed_variable, passed_sum, passed_difference, passed_mask, passed_shift}
use Rattle.weights.proofs.pass.Goals as goal
use Rattle.weights.proofs.pass.Goals.{then-w-eq0-via-then-w-eq0, then-w-eq0-via-else-w-eq0+then-holds_value}

pub returns-then-w-eq0 : goal.returns-then-w-eq0
returns-then-w-eq0 c =
    elim c.then-w-eq0.branch [
      | then-w-eq0-via-then-w-eq0 w ↦ passed_none _ _ c.value-w.ensures w.if-w-eq0.true
      | then-w-eq0-via-else-w-eq0+then-holds_value w ↦ passed_valued _ _ c.value-w.ensures w.holds_value.ensures w.if-holds_value.true
    ]

pub change-requires : goal.change-requires
change-requires c = omega (arith, words_enough c.requires, order_here c.requires c.in-Variable.ensures)

pub give-requires : goal.give-requires
give-requires c = omega (arith, words_enough c.requires, order_here c.requires c.in-Pair.ensures)

pub give-requires-in-Sum : goal.give-requires-in-Sum
give-requires-in-Sum c = omega (arith, words_enough c.requires, order_here c.requires c.in-Pair.ensures)

pub give-requires-in-Difference : goal.give-requires-in-Difference
give-requires-in-Difference c = omega (arith, words_enough c.requires, order_here c.requires c.in-Pair.ensures)

pub give-requires-in-Difference-2 : goal.give-requires-in-Difference-2
give-requires-in-Difference-2 c = omega (arith, words_enough c.requires, order_here c.requires c.in-Pair.ensures)

pub returns-in-Constant : goal.returns-in-Constant
returns-in-Constant c = passed_constant _ _ c.value-w.ensures c.holds_value.ensures c.if-holds_value.false c.in-Constant.ensures

pub returns-in-Variable : goal.returns-in-Variable
returns-in-Variable c = passed_variable _ _ c.value-w.ensures c.holds_value.ensures c.if-w-eq0.false (omega arith) c.if-holds_value.false c.set_value.ensures c.in-Variable.ensures c.change.ensures

pub returns-in-Sum : goal.returns-in-Sum
returns-in-Sum c = passed_sum _ _ c.value-w.ensures c.holds_value.ensures c.if-w-eq0.false (omega arith) c.if-holds_value.false c.set_value-in-Sum.ensures _ c.give.ensures c.give-in-Sum.ensures (rw c.in-Sum.is at c.in-Pair.ensures) refl

pub returns-in-Difference : goal.returns-in-Difference
returns-in-Difference c = passed_difference _ _ c.value-w.ensures c.holds_value.ensures c.if-w-eq0.false (omega arith) c.if-holds_value.false c.set_value-in-Difference.ensures _ c.give-in-Difference.ensures c.give-in-Difference-2.ensures (rw c.in-Difference.is at c.in-Pair.ensures) c.sub.ensures

pub returns-in-Mask : goal.returns-in-Mask
returns-in-Mask c = passed_mask _ _ c.value-w.ensures c.holds_value.ensures c.if-holds_value.false (rw c.in-Mask.is at c.in-Pair.ensures)

pub returns-in-Shift : goal.returns-in-Shift
returns-in-Shift c = passed_shift _ _ c.value-w.ensures c.holds_value.ensures c.if-holds_value.false c.in-Shift.ensures
