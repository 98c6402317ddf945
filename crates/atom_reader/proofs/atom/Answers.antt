use native.Mathlib.Omega.{arith}
use Rattle.model.specs.declared.ReadError.TheVariants.{Fault}
use Rattle.std.proofs.lemmas.Result.{err_from_is_err_and}
use Rattle.term_reader.proofs.Building.{variable_same, node_same, kept_before}
use Rattle.nodes.proofs.Table.{formed_less}
use Rattle.atom_reader.proofs.Reading.{no_kind, kind_found, atom_missing, atom_unknown, left_refused, right_refused, sides_read}
use Rattle.atom_reader.proofs.atom.Goals as goal

pub returns-then-source-at-clause-answer : goal.returns-then-source-at-clause-answer
returns-then-source-at-clause-answer c = atom_missing _ _ _ _ _ (omega arith)

pub returns-in_err-kind-clause-answer : goal.returns-in_err-kind-clause-answer
returns-in_err-kind-clause-answer c =
    let p = err_from_is_err_and c.from_residual.result c.from_residual.ensures.1 in
    let none = no_kind _ {f = Fault c.args.at} (λ known. cc) c.try_from.ensures c.in_err-kind.ensures.cases in
    rw (p.1, p.2) (atom_unknown _ _ _ _ _ (omega arith) none.0 none.1)

pub returns-in_err-first-clause-answer : goal.returns-in_err-first-clause-answer
returns-in_err-first-clause-answer c =
    let p = err_from_is_err_and c.from_residual-in_err-first.result c.from_residual-in_err-first.ensures.1 in
    rw (p.1, p.2) (left_refused _ _ _ _ _ (omega arith) (kind_found _ (λ e. e) c.try_from.ensures c.in_ok-kind.ensures.cases) c.in_err-first.ensures.answer)

pub returns-in_err-second-clause-answer : goal.returns-in_err-second-clause-answer
returns-in_err-second-clause-answer c =
    let p = err_from_is_err_and c.from_residual-in_err-second.result c.from_residual-in_err-second.ensures.1 in
    let same = variable_same _ _ c.requires.held c.in_ok-first.ensures.grown.kept in
    rw (p.1, p.2) (right_refused _ _ _ _ _ (omega arith) (kind_found _ (λ e. e) c.try_from.ensures c.in_ok-kind.ensures.cases) c.in_ok-first.ensures.answer same c.in_err-second.ensures.answer)

pub returns-clause-answer : goal.returns-clause-answer
returns-clause-answer c =
    let first = c.in_ok-first.ensures.grown in
    let second = c.in_ok-second.ensures.grown in
    let same = variable_same _ _ c.requires.held first.kept in
    rw c.new.ensures
    (sides_read _ _ _ _ _ (omega arith) (kind_found _ (λ e. e) c.try_from.ensures c.in_ok-kind.ensures.cases) c.in_ok-first.ensures.answer same c.in_ok-second.ensures.answer (node_same second.kept first.found.node_in_table))

pub returns-clause-grown : goal.returns-clause-grown
returns-clause-grown c =
    let first = c.in_ok-first.ensures.grown in
    let second = c.in_ok-second.ensures.grown in
    record {
      kept = kept_before first.found.grows first.kept second.kept;
      formed = formed_less _ first.found.grows second.formed;
      found = record {
        formed = second.found.formed;
        in_table = rw c.new.ensures (omega (arith, first.found.node_in_table, second.found.grows), second.found.node_in_table);
        next_in_bounds = second.found.next_in_bounds;
        grows = omega (arith, first.found.grows, second.found.grows);
        few = omega (arith, first.found.few, second.found.few);
      };
    }
