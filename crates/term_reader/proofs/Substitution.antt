-- Laws of an expression read over other terms: over the variables themselves, and over the registers' terms. Assumes nothing.
use mathlib.Core.Path.{◌≡◌, refl, sym, ap, ap₂, ◌∙◌, fun_ext}
use mathlib.Core.Bool.{Bool, true, false}
use mathlib.Core.List.{List, [], ◌∷◌}
use Prim.Native.Nat.{ℕ, zero, suc, ◌+◌, ◌-◌, ◌<◌}
use native.Mathlib.Omega.{arith}
use native.Mathlib.Decide.{dec_lt}
use lib.Dec.{leb, ltb}
use lib.ListN.{get_or, get_elem?}
use borrow.Author.Tests.{ltb-true}
use Rattle.model.specs.Result.{Result, Err, Ok, ◌>>=◌, check, found, map_ok}
use Rattle.model.specs.Term.{Term, constant, variable, sum, difference, mask, shift, substitute}
use Rattle.model.specs.Field.{byte_at, half_at, word_at}
use Rattle.model.specs.declared.ReadError.{ReadError}
use Rattle.model.specs.declared.ReadError.TheVariants.{Fault}
use Rattle.model.specs.Expression.{two_expressions, forms, most_count, Nodes, node_of, nodes_at, expression_at, register_count, most_nodes}
use Rattle.model.specs.Goals.{register_variables}
use Rattle.workspace.specs.Layout.{table_base, Same}
use Rattle.nodes.specs.Table.{operation_of, place}
use Rattle.nodes.specs.declared.Operation.{Operation}
use Rattle.nodes.specs.declared.Operation.TheVariants.{Sum, Difference, Mask}
use Rattle.leaf_reader.specs.Leaves.{over, nodes_over, variable_term}
use Rattle.leaf_reader.proofs.Leaves.{variable_register, variable_new}
use Rattle.term_reader.specs.Reader.{expression_over, RegisterTerms}
use Rattle.workspace.proofs.Frames.{same_within}
use Rattle.nodes.proofs.Table.{term_same}
use Rattle.term_reader.proofs.Reading.{applied, pair_of, operation_keeps, shift_over, pair_over, without_left, without_over}

-- ---- terms
pub over_variable : (t : Term) → over variable t ≡ t
unfolding over
over_variable (constant c) = refl
over_variable (variable v) = refl
over_variable (sum s t) = ap₂ sum (over_variable s) (over_variable t)
over_variable (difference s t) = ap₂ difference (over_variable s) (over_variable t)
over_variable (mask s t) = ap₂ mask (over_variable s) (over_variable t)
over_variable (shift count s) = ap (shift count) (over_variable s)

pub over_registers : (terms : List Term) (t : Term) → over (λ v. get_or terms v (constant 0)) t ≡ substitute terms t
unfolding over substitute
over_registers terms (constant c) = refl
over_registers terms (variable v) = refl
over_registers terms (sum s t) = ap₂ sum (over_registers terms s) (over_registers terms t)
over_registers terms (difference s t) = ap₂ difference (over_registers terms s) (over_registers terms t)
over_registers terms (mask s t) = ap₂ mask (over_registers terms s) (over_registers terms t)
over_registers terms (shift count s) = ap (shift count) (over_registers terms s)

-- ---- what is read has variables below the limit, so terms that agree there give the same
module _ {E B C : Type 0} (f g : B → C) where
  pub bind_agree : {A : Type 0} (x : Result A E) (k : A → Result B E) → ((a : A) → map_ok f (k a) ≡ map_ok g (k a)) → map_ok f (x >>= k) ≡ map_ok g (x >>= k)
  unfolding ◌>>=◌
  bind_agree (Err e) k h = refl
  bind_agree (Ok a) k h = h a

  check_agree : (b : Bool) (e : E) (k : Unit {0} → Result B E) → (b ≡ true → map_ok f (k tt) ≡ map_ok g (k tt)) → map_ok f (check b e >>= k) ≡ map_ok g (check b e >>= k)
  unfolding ◌>>=◌ check
  check_agree true e k h = h refl
  check_agree false e k h = refl

module _ (bytes : List ℕ) (end limit : ℕ) (σ τ : ℕ → Term) (agree : (v : ℕ) → v < limit → σ v ≡ τ v) where
  module _ (operand : (left p : ℕ) → Nodes) (same : (l q : ℕ) → nodes_over σ (operand l q) ≡ nodes_over τ (operand l q)) (left p : ℕ) where
    pair_agree : (operation : Operation) → nodes_over σ (node_of bytes end limit operand (two_expressions (operation_of operation)) left p) ≡ nodes_over τ (node_of bytes end limit operand (two_expressions (operation_of operation)) left p)
    unfolding node_of
    pair_agree operation =
        pair_over σ (operation_of operation) (operation_keeps operation σ) (operand (left - 1) (p + 1)) operand
        ∙ ap₂ (λ x y. pair_of (operation_of operation) x y) (same (left - 1) (p + 1)) (fun_ext (λ l. fun_ext (λ q. same l q)))
        ∙ sym (pair_over τ (operation_of operation) (operation_keeps operation τ) (operand (left - 1) (p + 1)) operand)

    shift_agree : (count : ℕ) → nodes_over σ (applied (shift count) (operand (left - 1) (p + 2))) ≡ nodes_over τ (applied (shift count) (operand (left - 1) (p + 2)))
    shift_agree count =
        shift_over σ count (operand (left - 1) (p + 2)) ∙ ap (applied (shift count)) (same (left - 1) (p + 2)) ∙ sym (shift_over τ count (operand (left - 1) (p + 2)))

    node_agree : (tag : ℕ) → nodes_over σ (found (get_elem? forms tag) (Fault p) >>= (λ form. node_of bytes end limit operand form left p)) ≡ nodes_over τ (found (get_elem? forms tag) (Fault p) >>= (λ form. node_of bytes end limit operand form left p))
    unfolding node_of ◌>>=◌ found over
    node_agree zero = bind_agree _ _ (word_at bytes end (p + 1)) _ (λ c. refl)
    node_agree (suc zero) = bind_agree _ _ (half_at bytes end (p + 1)) _ (λ v. check_agree _ _ (ltb v limit) (Fault (p + 1)) _ (λ e. ap (λ t. Ok (t, p + 3, left - 1)) (agree v (ltb-true v limit e))))
    node_agree (suc (suc zero)) = pair_agree Sum
    node_agree (suc (suc (suc zero))) = pair_agree Difference
    node_agree (suc (suc (suc (suc zero)))) = pair_agree Mask
    node_agree (suc (suc (suc (suc (suc zero))))) =
        bind_agree _ _ (byte_at bytes end (p + 1)) _ (λ count. check_agree _ _ (leb count most_count) (Fault (p + 1)) _ (λ e. shift_agree count))
    node_agree (suc (suc (suc (suc (suc (suc tag)))))) = refl

  nodes_agree : (depth left p : ℕ) → nodes_over σ (nodes_at bytes end limit depth left p) ≡ nodes_over τ (nodes_at bytes end limit depth left p)
  unfolding nodes_at ◌>>=◌
  nodes_agree zero left p = bind_agree _ _ (byte_at bytes end p) _ (λ tag. refl)
  nodes_agree (suc depth) left p =
      bind_agree _ _ (byte_at bytes end p) _ (λ tag. bind_agree _ _ (check (ltb 0 left) (Fault p)) _ (λ u. node_agree (λ l q. nodes_at bytes end limit depth l q) (λ l q. nodes_agree depth l q) left p tag))

  pub expression_agree : (p : ℕ) → expression_over σ (expression_at bytes end limit p) ≡ expression_over τ (expression_at bytes end limit p)
  unfolding expression_at
  expression_agree p = sym (without_over σ (nodes_at bytes end limit most_nodes most_nodes p)) ∙ ap without_left (nodes_agree most_nodes most_nodes p) ∙ without_over τ (nodes_at bytes end limit most_nodes most_nodes p)

-- ---- registers whose terms are known
pub register_terms_same : {ws us registers : List ℕ} {terms : List Term} (top : ℕ) → ((v : ℕ) → v < register_count → get_or registers v 0 < top) → Same 0 (place top) ws us → RegisterTerms ws registers terms → RegisterTerms us registers terms
register_terms_same {registers = registers} top r s h = record { is = λ v l. term_same top (same_within table_base (place top) (omega arith) (omega arith) s) (get_or registers v 0) (r v l) ∙ h.is v l }

-- what is read has each variable replaced by the term of its register
module _ {ws registers : List ℕ} {terms : List Term} (h : RegisterTerms ws registers terms) (bytes : List ℕ) (end p : ℕ) where
  pub expression_substituted : expression_over (variable_term ws registers) (expression_at bytes end register_count p) ≡ map_ok (λ y. (substitute terms y.0, y.1)) (expression_at bytes end register_count p)
  expression_substituted =
      expression_agree bytes end register_count (variable_term ws registers) (λ v. get_or terms v (constant 0)) (λ v l. sym (variable_register ws registers v l) ∙ h.is v l) p
      ∙ ap (λ f. map_ok f (expression_at bytes end register_count p)) (fun_ext (λ y. ap (λ t. (t, y.1)) (over_registers terms y.0)))

-- the registers are the variables themselves: what is read is unchanged, whatever the limit
abbrev variables_from : (n v : ℕ) → List Term
variables_from zero v = []
variables_from (suc n) v = variable v ∷ variables_from n (suc v)

variable_at : (n v k : ℕ) → k < n → get_or (variables_from n v) k (constant 0) ≡ variable (k + v)
variable_at zero v k h = absurd (omega arith)
variable_at (suc n) v zero h = ap variable (omega arith)
variable_at (suc n) v (suc k) h = variable_at n (suc v) k (omega arith) ∙ ap variable (omega arith)

register_variable : (v : ℕ) → v < register_count → get_or register_variables v (constant 0) ≡ variable v
register_variable v h = variable_at register_count 0 v h ∙ ap variable (omega arith)

module _ {ws registers : List ℕ} (h : RegisterTerms ws registers register_variables) where
  pub variables_self : variable_term ws registers ≡ variable
  variables_self = fun_ext (λ v. at v (dec_lt v register_count))
    where
      at : (v : ℕ) → Dec (v < register_count) → variable_term ws registers v ≡ variable v
      at v (yes l) = sym (variable_register ws registers v l) ∙ h.is v l ∙ register_variable v l
      at v (no l) = sym (variable_new ws registers v (omega arith))

  pub expression_self : (x : Result (Term × ℕ) ReadError) → expression_over (variable_term ws registers) x ≡ x
  expression_self (Err e) = refl
  expression_self (Ok z) = rw variables_self (ap (λ t. Ok (t, z.1)) (over_variable z.0))
