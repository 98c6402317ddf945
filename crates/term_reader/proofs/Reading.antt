-- Laws of the model's reading of an expression, with a term for each variable: one for each way out of the reader. Assumes nothing.
use mathlib.Core.Path.{◌≡◌, refl, ap}
use mathlib.Core.Option.{none, some}
use mathlib.Core.List.{List}
use Prim.Native.Nat.{ℕ, zero, suc, ◌+◌, ◌-◌, ◌<◌, ◌≤◌}
use native.Mathlib.Omega.{arith}
use lib.ListN.{get_or, get_elem?}
use borrow.Author.Tests.{lt-ltb, le-ltb, le-leb, lt-leb}
use Rattle.model.specs.Result.{Result, Err, Ok, ◌>>=◌, check, found}
use Rattle.model.specs.Term.{Term, shift}
use Rattle.model.specs.Field.{byte_at}
use Rattle.model.specs.declared.ReadError.{ReadError}
use Rattle.model.specs.declared.ReadError.TheVariants.{Missing, Fault}
use Rattle.model.specs.Expression.{Form, two_expressions, count_and_expression, forms, most_count, Nodes, node_of, nodes_at}
use Rattle.nodes.specs.Table.{operation_of}
use Rattle.nodes.specs.declared.Operation.{Operation}
use Rattle.nodes.specs.declared.Operation.TheVariants.{Sum, Difference, Mask}
use Rattle.leaf_reader.specs.Leaves.{over, nodes_over}
use Rattle.term_reader.specs.Reader.{expression_over}

-- ---- a tag of no form
pub form_unknown : (tag : ℕ) → 6 ≤ tag → get_elem? forms tag ≡ none
form_unknown zero h = absurd (omega arith)
form_unknown (suc zero) h = absurd (omega arith)
form_unknown (suc (suc zero)) h = absurd (omega arith)
form_unknown (suc (suc (suc zero))) h = absurd (omega arith)
form_unknown (suc (suc (suc (suc zero)))) h = absurd (omega arith)
form_unknown (suc (suc (suc (suc (suc zero))))) h = absurd (omega arith)
form_unknown (suc (suc (suc (suc (suc (suc t)))))) h = refl

module _ (bytes : List ℕ) (end limit : ℕ) where
  -- ---- a shift whose count cannot be read
  module _ (σ : ℕ → Term) (operand : (left p : ℕ) → Nodes) (left at : ℕ) where
    pub shift_missing : end < at + 2 → Err Missing ≡ nodes_over σ (node_of bytes end limit operand (count_and_expression shift) left at)
    unfolding node_of byte_at ◌>>=◌ check
    shift_missing h = rw (lt-leb (at + 1 + 1) end (omega arith))

    pub shift_fault : at + 2 ≤ end → most_count < get_or bytes (at + 1) 0 → Err (Fault (at + 1)) ≡ nodes_over σ (node_of bytes end limit operand (count_and_expression shift) left at)
    unfolding node_of byte_at ◌>>=◌ check
    shift_fault h k = rw (le-leb (at + 1 + 1) end (omega arith), lt-leb (get_or bytes (at + 1) 0) most_count k)

  -- ---- the nodes at a position
  module _ (left at : ℕ) where
    module _ (σ : ℕ → Term) where
      pub nodes_missing : end ≤ at → (depth : ℕ) → Err Missing ≡ nodes_over σ (nodes_at bytes end limit depth left at)
      unfolding nodes_at byte_at ◌>>=◌ check
      nodes_missing h zero = rw (lt-leb (at + 1) end (omega arith))
      nodes_missing h (suc depth) = rw (lt-leb (at + 1) end (omega arith))

      pub nodes_spent : at < end → left ≡ 0 → (depth : ℕ) → Err (Fault at) ≡ nodes_over σ (nodes_at bytes end limit depth left at)
      unfolding nodes_at byte_at ◌>>=◌ check
      nodes_spent h e zero = rw (le-leb (at + 1) end (omega arith))
      nodes_spent h e (suc depth) = rw (le-leb (at + 1) end (omega arith), le-ltb 0 left (omega arith))

      pub nodes_unknown : at < end → 0 < left → 6 ≤ get_or bytes at 0 → (depth : ℕ) → Err (Fault at) ≡ nodes_over σ (nodes_at bytes end limit depth left at)
      unfolding nodes_at byte_at ◌>>=◌ check found
      nodes_unknown h s u zero = rw (le-leb (at + 1) end (omega arith))
      nodes_unknown h s u (suc depth) = rw (le-leb (at + 1) end (omega arith), lt-ltb 0 left s, form_unknown (get_or bytes at 0) u)

    module _ (h : at < end) where
      module _ (depth : ℕ) (s : 0 < left) where
        pub nodes_form : {form : Form} → get_elem? forms (get_or bytes at 0) ≡ some form → node_of bytes end limit (λ l q. nodes_at bytes end limit depth l q) form left at ≡ nodes_at bytes end limit (suc depth) left at
        unfolding nodes_at byte_at ◌>>=◌ check found
        nodes_form e = rw (le-leb (at + 1) end (omega arith), lt-ltb 0 left s, e)

-- ---- an operation on what is read
abbrev pub applied : (Term → Term) → Nodes → Nodes
applied f x = x >>= (λ z. Ok (f z.0, z.1, z.2))

-- two expressions, the second where the first ends
abbrev pub pair_of : (Term → Term → Term) → Nodes → ((left p : ℕ) → Nodes) → Nodes
pair_of operation x y = x >>= (λ z. applied (operation z.0) (y z.2 z.1))

-- an operation that is the same over other terms
abbrev pub Keeps : (Term → Term → Term) → (ℕ → Term) → Type 0
Keeps operation σ = (s t : Term) → over σ (operation s t) ≡ operation (over σ s) (over σ t)

pub operation_keeps : (operation : Operation) (σ : ℕ → Term) → Keeps (operation_of operation) σ
unfolding over
operation_keeps Sum σ s t = refl
operation_keeps Difference σ s t = refl
operation_keeps Mask σ s t = refl

module _ (σ : ℕ → Term) where
  applied_over : (f g : Term → Term) → ((t : Term) → over σ (f t) ≡ g (over σ t)) → (x : Nodes) → nodes_over σ (applied f x) ≡ applied g (nodes_over σ x)
  unfolding ◌>>=◌
  applied_over f g k (Err e) = refl
  applied_over f g k (Ok z) = ap (λ t. Ok (t, z.1, z.2)) (k z.0)

  pub shift_over : (count : ℕ) (x : Nodes) → nodes_over σ (applied (shift count) x) ≡ applied (shift count) (nodes_over σ x)
  unfolding over
  shift_over count x = applied_over (shift count) (shift count) (λ t. refl) x

  pub pair_over : (operation : Term → Term → Term) → Keeps operation σ → (x : Nodes) (y : (left p : ℕ) → Nodes) → nodes_over σ (pair_of operation x y) ≡ pair_of operation (nodes_over σ x) (λ l q. nodes_over σ (y l q))
  unfolding ◌>>=◌
  pair_over operation k (Err e) y = refl
  pair_over operation k (Ok z) y = applied_over (operation z.0) (operation (over σ z.0)) (k z.0) (y z.2 z.1)

module _ (bytes : List ℕ) (end limit : ℕ) (operand : (left p : ℕ) → Nodes) (left at : ℕ) where
  pub node_pair : (operation : Term → Term → Term) → pair_of operation (operand (left - 1) (at + 1)) operand ≡ node_of bytes end limit operand (two_expressions operation) left at
  unfolding node_of
  node_pair operation = refl

  pub node_shift : at + 2 ≤ end → get_or bytes (at + 1) 0 ≤ most_count → applied (shift (get_or bytes (at + 1) 0)) (operand (left - 1) (at + 2)) ≡ node_of bytes end limit operand (count_and_expression shift) left at
  unfolding node_of byte_at ◌>>=◌ check
  node_shift h k = rw (le-leb (at + 1 + 1) end (omega arith), le-leb (get_or bytes (at + 1) 0) most_count k)

-- ---- an expression
abbrev pub without_left : Nodes → Result (Term × ℕ) ReadError
without_left x = x >>= (λ z. Ok (z.0, z.1))

pub without_over : (σ : ℕ → Term) (x : Nodes) → without_left (nodes_over σ x) ≡ expression_over σ (without_left x)
unfolding ◌>>=◌
without_over σ (Err e) = refl
without_over σ (Ok z) = refl
