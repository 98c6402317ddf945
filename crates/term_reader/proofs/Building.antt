-- Laws of the reader that builds expressions in the table: one for each way out. Assumes nothing.
use mathlib.Core.Path.{◌≡◌, refl, sym, ap, subst, ◌∙◌, fun_ext}
use mathlib.Core.Option.{some}
use mathlib.Core.List.{List}
use Prim.Native.Nat.{ℕ, zero, suc, ◌+◌, ◌-◌, ◌<◌, ◌≤◌}
use native.Mathlib.Numerals.{add-one}
use native.Mathlib.Omega.{arith}
use native.Mathlib.Decide.{dec_lt}
use lib.ListN.{get_or, get_elem?}
use Rattle.model.specs.Result.{Result, Err, Ok, ◌>>=◌}
use Rattle.model.specs.Term.{Term, shift}
use Rattle.model.specs.declared.ReadError.{ReadError}
use Rattle.model.specs.Expression.{Form, two_expressions, count_and_expression, forms, most_count, most_nodes, Nodes, node_of, nodes_at, expression_at, register_count}
use Rattle.workspace.specs.Layout.{table_base, Same}
use Rattle.nodes.specs.Table.{operation_of, place, term_at, Formed, Put}
use Rattle.nodes.specs.declared.Operation.{Operation}
use Rattle.leaf_reader.specs.Leaves.{nodes_over, variable_term, nodes_answer, Grown}
use Rattle.leaf_reader.specs.declared.Parsed.{Parsed}
use Rattle.term_reader.specs.Reader.{expression_over, expression_answer}
use Rattle.leaf_reader.proofs.Leaves.{variable_register, variable_new}
use Rattle.workspace.proofs.Frames.{same_trans, same_within}
use Rattle.nodes.proofs.Table.{term_same, formed_less}
use Rattle.term_reader.proofs.Reading.{nodes_form, applied, pair_of, operation_keeps, shift_over, pair_over, node_pair, node_shift, without_left, without_over}

-- ---- words that keep the table
-- give each variable the same term
pub variable_same : {ws us : List ℕ} (registers : List ℕ) (top : ℕ) → ((v : ℕ) → v < register_count → get_or registers v 0 < top) → Same 0 (place top) ws us → variable_term us registers ≡ variable_term ws registers
variable_same {ws} {us} registers top r s = fun_ext (λ v. at v (dec_lt v register_count))
  where
    at : (v : ℕ) → Dec (v < register_count) → variable_term us registers v ≡ variable_term ws registers v
    at v (yes h) = sym (variable_register us registers v h) ∙ term_same top (same_within table_base (place top) (omega arith) (omega arith) s) (get_or registers v 0) (r v h) ∙ variable_register ws registers v h
    at v (no h) = sym (variable_new us registers v (omega arith)) ∙ variable_new ws registers v (omega arith)

-- give each node the same term
pub node_same : {ws us : List ℕ} {top i : ℕ} → Same 0 (place top) ws us → i < top → term_at us i ≡ term_at ws i
node_same {top = top} {i} s h = term_same top (same_within table_base (place top) (omega arith) (omega arith) s) i h

-- one after the other
pub kept_before : {ws us vs : List ℕ} {top t : ℕ} → top ≤ t → Same 0 (place top) ws us → Same 0 (place t) us vs → Same 0 (place top) ws vs
kept_before {top = top} h s k = same_trans s (same_within 0 (place top) (omega arith) (omega arith) k)

-- an expression whose last node is put at t
pub grown_put : {ws vs xs : List ℕ} {z : Term} {end top left t n l : ℕ} → Same 0 (place top) ws vs → top ≤ t → t + l < top + left → n ≤ end → Put vs xs t z
    → Grown ws xs end top left (Ok (record { node = t; next = n; left = l; top = t + 1 }))
grown_put {xs = xs} {top = top} {t = t} s m h i w = record {
  kept = kept_before m s w.kept;
  formed = formed_less top (omega arith) w.formed;
  found = record { formed = subst (Formed xs) (sym (add-one t)) w.formed; node_in_table = omega arith; next_in_bounds = i; grows = omega arith; few = omega arith };
}

module _ (σ : ℕ → Term) (bytes : List ℕ) (limit : ℕ) {end left at : ℕ} (h : at < end) (s : 0 < left) where
  -- with a node left, the depth is one more than some other
  by_depth : {o : Nodes} → ((d : ℕ) → left - 1 ≤ d → o ≡ nodes_over σ (nodes_at bytes end limit (suc d) left at)) → (d : ℕ) → left ≤ d → o ≡ nodes_over σ (nodes_at bytes end limit d left at)
  by_depth k zero l = absurd (omega arith)
  by_depth k (suc d) l = k d (omega arith)

  -- what stands after a tag, by its form
  pub read_form : {o : Nodes} {form : Form} → get_elem? forms (get_or bytes at 0) ≡ some form → ((operand : (left p : ℕ) → Nodes) → o ≡ nodes_over σ (node_of bytes end limit operand form left at))
      → (d : ℕ) → left ≤ d → o ≡ nodes_over σ (nodes_at bytes end limit d left at)
  read_form f a = by_depth (λ d l. a _ ∙ ap (nodes_over σ) (nodes_form bytes end limit left at h d s f))

  -- ---- a pair, once its first operand is read
  module _ (operation : Operation) (f : get_elem? forms (get_or bytes at 0) ≡ some (two_expressions (operation_of operation))) where
    from_first : {x : Nodes} → ((d : ℕ) → left - 1 ≤ d → x ≡ nodes_over σ (nodes_at bytes end limit d (left - 1) (at + 1))) → (d : ℕ) → left - 1 ≤ d
        → pair_of (operation_of operation) x (λ l q. nodes_over σ (nodes_at bytes end limit d l q)) ≡ nodes_over σ (nodes_at bytes end limit (suc d) left at)
    from_first a d l =
        ap (λ x. pair_of (operation_of operation) x (λ l q. nodes_over σ (nodes_at bytes end limit d l q))) (a d l)
        ∙ sym (pair_over σ (operation_of operation) (operation_keeps operation σ) (nodes_at bytes end limit d (left - 1) (at + 1)) (λ l q. nodes_at bytes end limit d l q))
        ∙ ap (nodes_over σ) (node_pair bytes end limit (λ l q. nodes_at bytes end limit d l q) left at (operation_of operation))
        ∙ ap (nodes_over σ) (nodes_form bytes end limit left at h d s f)

    pub first_refused : {e : ReadError} → ((d : ℕ) → left - 1 ≤ d → Err e ≡ nodes_over σ (nodes_at bytes end limit d (left - 1) (at + 1)))
        → (d : ℕ) → left ≤ d → Err e ≡ nodes_over σ (nodes_at bytes end limit d left at)
    unfolding ◌>>=◌
    first_refused a = by_depth (λ d l. from_first a d l)

    -- once its second operand is read, over terms τ that are the same
    module _ {a : Term} {p l : ℕ} (first : (d : ℕ) → left - 1 ≤ d → Ok (a, p, l) ≡ nodes_over σ (nodes_at bytes end limit d (left - 1) (at + 1))) (few : l < left) {τ : ℕ → Term} (same : τ ≡ σ) where
      from_second : {x : Nodes} → ((d : ℕ) → l ≤ d → x ≡ nodes_over τ (nodes_at bytes end limit d l p)) → (d : ℕ) → left - 1 ≤ d → applied (operation_of operation a) x ≡ nodes_over σ (nodes_at bytes end limit (suc d) left at)
      unfolding ◌>>=◌
      from_second q d m = rw (q d (omega arith), same) (from_first first d m)

      pub second_refused : {e : ReadError} → ((d : ℕ) → l ≤ d → Err e ≡ nodes_over τ (nodes_at bytes end limit d l p)) → (d : ℕ) → left ≤ d → Err e ≡ nodes_over σ (nodes_at bytes end limit d left at)
      unfolding ◌>>=◌
      second_refused q = by_depth (λ d m. from_second q d m)

      pub pair_read : {b c z : Term} {n r : ℕ} → ((d : ℕ) → l ≤ d → Ok (b, n, r) ≡ nodes_over τ (nodes_at bytes end limit d l p)) → z ≡ operation_of operation c b → c ≡ a → (d : ℕ) → left ≤ d → Ok (z, n, r) ≡ nodes_over σ (nodes_at bytes end limit d left at)
      unfolding ◌>>=◌
      pair_read {n = n} {r} q e k = by_depth (λ d m. rw (e, k) (from_second q d m))

  -- ---- a shift, once its operand is read
  module _ (f : get_elem? forms (get_or bytes at 0) ≡ some (count_and_expression shift)) (k : at + 2 ≤ end) (m : get_or bytes (at + 1) 0 ≤ most_count) where
    from_operand : {x : Nodes} → ((d : ℕ) → left - 1 ≤ d → x ≡ nodes_over σ (nodes_at bytes end limit d (left - 1) (at + 2))) → (d : ℕ) → left - 1 ≤ d → applied (shift (get_or bytes (at + 1) 0)) x ≡ nodes_over σ (nodes_at bytes end limit (suc d) left at)
    from_operand a d l =
        let count : ℕ = get_or bytes (at + 1) 0 in
        ap (applied (shift count)) (a d l)
        ∙ sym (shift_over σ count (nodes_at bytes end limit d (left - 1) (at + 2)))
        ∙ ap (nodes_over σ) (node_shift bytes end limit (λ l q. nodes_at bytes end limit d l q) left at k m)
        ∙ ap (nodes_over σ) (nodes_form bytes end limit left at h d s f)

    pub operand_refused : {x : ReadError} → ((d : ℕ) → left - 1 ≤ d → Err x ≡ nodes_over σ (nodes_at bytes end limit d (left - 1) (at + 2))) → (d : ℕ) → left ≤ d → Err x ≡ nodes_over σ (nodes_at bytes end limit d left at)
    unfolding ◌>>=◌
    operand_refused a = by_depth (λ d l. from_operand a d l)

    pub shift_read : {a z : Term} {n r : ℕ} → ((d : ℕ) → left - 1 ≤ d → Ok (a, n, r) ≡ nodes_over σ (nodes_at bytes end limit d (left - 1) (at + 2))) → z ≡ shift (get_or bytes (at + 1) 0) a → (d : ℕ) → left ≤ d → Ok (z, n, r) ≡ nodes_over σ (nodes_at bytes end limit d left at)
    unfolding ◌>>=◌
    shift_read {n = n} {r} a e = by_depth (λ d l. ap (λ t. Ok (t, n, r)) e ∙ from_operand a d l)

-- ---- an expression
pub expression_read : (σ : ℕ → Term) (bytes : List ℕ) (end limit at : ℕ) {x : Nodes} → ((d : ℕ) → most_nodes ≤ d → x ≡ nodes_over σ (nodes_at bytes end limit d most_nodes at)) → without_left x ≡ expression_over σ (expression_at bytes end limit at)
unfolding expression_at
expression_read σ bytes end limit at a = ap without_left (a most_nodes (omega arith)) ∙ without_over σ (nodes_at bytes end limit most_nodes most_nodes at)

-- what an answer says without the nodes left
pub answer_without_left : (us : List ℕ) (r : Result Parsed ReadError) → expression_answer us r ≡ without_left (nodes_answer us r)
unfolding ◌>>=◌
answer_without_left us (Err e) = refl
answer_without_left us (Ok x) = refl
