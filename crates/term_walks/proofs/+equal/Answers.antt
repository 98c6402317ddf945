use mathlib.Core.Path.{sym, ◌∙◌}
use native.Mathlib.Omega.{arith}
use borrow.Author.Tests.{eqb-true, eqb-false}
use Rattle.nodes.proofs.Table.{shaped_part}
use Rattle.term_walks.proofs.Walks.{same_twin, same_facts, constants_equal, variables_equal, parts_before, first_differs, second_same, counts_differ, shifted_same}
use Rattle.term_walks.proofs.+equal.Goals as goal

pub returns-then-twins : goal.returns-then-twins
returns-then-twins t c = same_twin c.requires.first_shaped c.requires.second_shaped (eqb-true _ _ (sym c.twins.ensures ∙ c.if-twins.true))

pub returns-then-not-alike : goal.returns-then-not-alike
returns-then-not-alike t c = same_facts c.requires.first_shaped c.requires.second_shaped (eqb-false _ _ (sym c.alike.ensures ∙ c.if-not-alike.true))

pub returns-in-Constant : goal.returns-in-Constant
returns-in-Constant t c = constants_equal c.requires.first_shaped c.requires.second_shaped c.alike.ensures c.if-not-alike.false c.in-Constant.ensures c.value.ensures

pub returns-in-Variable : goal.returns-in-Variable
returns-in-Variable t c = variables_equal c.requires.first_shaped c.requires.second_shaped c.alike.ensures c.if-not-alike.false c.in-Variable.ensures c.parts.ensures

pub equal-requires : goal.equal-requires
equal-requires t c =
    let p = parts_before c.requires.first_shaped c.requires.second_shaped c.alike.ensures c.if-not-alike.false c.in-Pair.ensures in
    (omega (arith, c.decreases, p.0.0), (shaped_part c.requires.first_shaped p.0.0, rw c.first.ensures (shaped_part c.requires.second_shaped p.1.0)))

pub equal-requires-then-equal : goal.equal-requires-then-equal
equal-requires-then-equal t c =
    let p = parts_before c.requires.first_shaped c.requires.second_shaped c.alike.ensures c.if-not-alike.false c.in-Pair.ensures in
    (omega (arith, c.decreases, p.0.1), (shaped_part c.requires.first_shaped p.0.1, rw c.second.ensures.0 (shaped_part c.requires.second_shaped p.1.1)))

pub returns-then-equal : goal.returns-then-equal
returns-then-equal t c = second_same c.requires.first_shaped c.requires.second_shaped c.alike.ensures c.if-not-alike.false c.in-Pair.ensures c.first.ensures c.equal.ensures c.if-equal.true c.second.ensures.0 c.equal-then-equal.ensures

pub returns-else-equal : goal.returns-else-equal
returns-else-equal t c = first_differs c.requires.first_shaped c.requires.second_shaped c.alike.ensures c.if-not-alike.false c.in-Pair.ensures c.first.ensures c.equal.ensures c.if-equal.false

pub equal-requires-then-count-second : goal.equal-requires-then-count-second
equal-requires-then-count-second t c =
    let p = parts_before c.requires.first_shaped c.requires.second_shaped c.alike.ensures c.if-not-alike.false c.in-Shift.ensures in
    (omega (arith, c.decreases, p.0), (shaped_part c.requires.first_shaped p.0, rw c.first-then-count-second.ensures (shaped_part c.requires.second_shaped p.1)))

pub returns-then-count-second : goal.returns-then-count-second
returns-then-count-second t c = shifted_same c.requires.first_shaped c.requires.second_shaped c.alike.ensures c.if-not-alike.false c.in-Shift.ensures c.second-in-Shift.ensures.0 c.if-count-second.true c.first-then-count-second.ensures c.equal-then-count-second.ensures

pub returns-else-count-second : goal.returns-else-count-second
returns-else-count-second t c = counts_differ c.requires.first_shaped c.requires.second_shaped c.alike.ensures c.if-not-alike.false c.in-Shift.ensures c.second-in-Shift.ensures.0 c.if-count-second.false
