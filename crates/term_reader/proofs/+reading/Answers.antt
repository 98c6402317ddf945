use mathlib.Core.Path.{ap}
use lib.ListN.{get_elem?}
use Rattle.model.specs.Expression.{forms}
use native.Mathlib.Omega.{arith}
use Rattle.std.proofs.lemmas.Result.{err_from_is_err_and}
use Rattle.term_reader.proofs.Reading.{shift_missing, shift_fault, nodes_missing, nodes_spent, nodes_unknown}
use Rattle.term_reader.proofs.Building.{variable_same, node_same, kept_before, grown_put, read_form, first_refused, second_refused, pair_read, operand_refused, shift_read}
use Rattle.term_reader.proofs.+reading.Goals as goal

-- ---- `read`
pub read-returns-then-source-at-clause-answer : goal.read-returns-then-source-at-clause-answer
read-returns-then-source-at-clause-answer t c = λ d l. nodes_missing _ _ _ _ _ _ (omega arith) d

pub read-returns-then-left-eq0-clause-answer : goal.read-returns-then-left-eq0-clause-answer
read-returns-then-left-eq0-clause-answer t c = λ d l. nodes_spent _ _ _ _ _ _ (omega arith) (omega arith) d

pub read-returns-in-0-clause-answer : goal.read-returns-in-0-clause-answer
read-returns-in-0-clause-answer t c = read_form _ _ _ (omega arith) (omega arith) (ap (get_elem? forms) c.in-0.is) (c.read_constant.ensures.answer _ _)

pub read-returns-in-1-clause-answer : goal.read-returns-in-1-clause-answer
read-returns-in-1-clause-answer t c = read_form _ _ _ (omega arith) (omega arith) (ap (get_elem? forms) c.in-1.is) c.read_variable.ensures.answer

pub read-returns-in_default-clause-answer : goal.read-returns-in_default-clause-answer
read-returns-in_default-clause-answer t c = λ d l. nodes_unknown _ _ _ _ _ _ (omega arith) (omega arith) (omega arith) d

-- ---- `read_pair`
pub read_pair-returns-in_err-first-clause-answer : goal.read_pair-returns-in_err-first-clause-answer
read_pair-returns-in_err-first-clause-answer t c =
    let p = err_from_is_err_and c.from_residual.result c.from_residual.ensures.1 in
    rw (p.1, p.2) (first_refused _ _ _ (omega arith) (omega arith) c.args.operation c.requires.pair_stands c.in_err-first.ensures.answer)

pub read_pair-returns-in_err-second-clause-answer : goal.read_pair-returns-in_err-second-clause-answer
read_pair-returns-in_err-second-clause-answer t c =
    let p = err_from_is_err_and c.from_residual-in_err-second.result c.from_residual-in_err-second.ensures.1 in
    let same = variable_same _ _ c.requires.ready.held c.in_ok-first.ensures.grown.kept in
    rw (p.1, p.2) (second_refused _ _ _ (omega arith) (omega arith) c.args.operation c.requires.pair_stands c.in_ok-first.ensures.answer (omega (arith, c.in_ok-first.ensures.grown.found.few, c.in_ok-first.ensures.grown.found.grows)) same c.in_err-second.ensures.answer)

pub read_pair-returns-clause-answer : goal.read_pair-returns-clause-answer
read_pair-returns-clause-answer t c =
    let first = c.in_ok-first.ensures.grown in
    let second = c.in_ok-second.ensures.grown in
    let same = variable_same _ _ c.requires.ready.held first.kept in
    pair_read _ _ _ (omega arith) (omega arith) c.args.operation c.requires.pair_stands c.in_ok-first.ensures.answer (omega (arith, first.found.few, first.found.grows)) same c.in_ok-second.ensures.answer c.put_pair.ensures.is (node_same second.kept first.found.node_in_table)

pub read_pair-returns-clause-grown : goal.read_pair-returns-clause-grown
read_pair-returns-clause-grown t c =
    let first = c.in_ok-first.ensures.grown in
    let second = c.in_ok-second.ensures.grown in
    grown_put (kept_before first.found.grows first.kept second.kept) (omega (arith, first.found.grows, second.found.grows)) (omega (arith, first.found.few, second.found.few)) second.found.next_in_bounds c.put_pair.ensures

-- ---- `read_shift`
pub read_shift-returns-then-source-at-lt2-clause-answer : goal.read_shift-returns-then-source-at-lt2-clause-answer
read_shift-returns-then-source-at-lt2-clause-answer t c = read_form _ _ _ (omega arith) (omega arith) c.requires.shift_stands (λ o. shift_missing _ _ _ _ o _ _ (omega arith))

pub read_shift-returns-then-count-gt-MOST_COUNT-clause-answer : goal.read_shift-returns-then-count-gt-MOST_COUNT-clause-answer
read_shift-returns-then-count-gt-MOST_COUNT-clause-answer t c = read_form _ _ _ (omega arith) (omega arith) c.requires.shift_stands (λ o. shift_fault _ _ _ _ o _ _ (omega arith) (omega arith))

pub read_shift-returns-in_err-operand-clause-answer : goal.read_shift-returns-in_err-operand-clause-answer
read_shift-returns-in_err-operand-clause-answer t c =
    let p = err_from_is_err_and c.from_residual.result c.from_residual.ensures.1 in
    rw (p.1, p.2) (operand_refused _ _ _ (omega arith) (omega arith) c.requires.shift_stands (omega arith) (omega arith) c.in_err-operand.ensures.answer)

pub read_shift-returns-clause-answer : goal.read_shift-returns-clause-answer
read_shift-returns-clause-answer t c = shift_read _ _ _ (omega arith) (omega arith) c.requires.shift_stands (omega arith) (omega arith) c.in_ok-operand.ensures.answer (rw (← c.from-count.ensures) c.put_shift.ensures.is)

pub read_shift-returns-clause-grown : goal.read_shift-returns-clause-grown
read_shift-returns-clause-grown t c =
    let operand = c.in_ok-operand.ensures.grown in
    grown_put operand.kept operand.found.grows (omega (arith, operand.found.few)) operand.found.next_in_bounds c.put_shift.ensures
