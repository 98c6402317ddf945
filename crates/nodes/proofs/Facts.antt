-- Laws of what stands beside a node, and of the functions that keep it: one for each way out. Assumes nothing.
use mathlib.Core.Path.{◌≡◌, refl, sym, ◌∙◌}
use mathlib.Core.Bool.{Bool, true, false, ◌&&◌}
use mathlib.Core.List.{List}
use Prim.Native.Nat.{ℕ, zero, suc, ◌+◌, ◌*◌, ◌/◌, ◌%◌, ◌<◌}
use native.Mathlib.Omega.{arith}
use native.Mathlib.Decide.{dec_lt}
use lib.Dec.{eqb, leb}
use borrow.Author.Tests.{le-leb, lt-leb}
use Rattle.model.specs.Term.{Term, constant, variable, sum, difference, mask, shift, eval, size, closed, root_of}
use Rattle.std.specs.Int.{from_bool}
use Rattle.nodes.specs.declared.Operation.{Operation}
use Rattle.nodes.specs.declared.Operation.TheVariants.{Sum, Difference, Mask}
use Rattle.nodes.specs.Table.{low, value_at, marks_at, valued_at, operation_of, term_at, plain, pair_value, size_cap, capped, facts_of, holds_of, value_of, Marked, Formed}
use Rattle.nodes.proofs.Table.{marks_here, value_here}

-- ---- what marks say
tag_bound : (t : Term) → (root_of t).tag < 6
tag_bound (constant c) = omega arith
tag_bound (variable v) = omega arith
tag_bound (sum s t) = omega arith
tag_bound (difference s t) = omega arith
tag_bound (mask s t) = omega arith
tag_bound (shift count s) = omega arith

pub bit_bound : (b : Bool) → from_bool b < 2
bit_bound true = omega arith
bit_bound false = omega arith

pub bit_both : (a b : Bool) → from_bool (a && b) ≡ from_bool a * from_bool b
bit_both true true = refl
bit_both true false = refl
bit_both false b = omega arith

pub bits_product : (x y : ℕ) → x < 2 → y < 2 → x * y < 2
bits_product zero y h k = omega arith
bits_product (suc zero) y h k = omega arith
bits_product (suc (suc x)) y h k = absurd (omega arith)

bit_is : (b : Bool) → eqb (from_bool b) 1 ≡ b
bit_is true = refl
bit_is false = refl

-- sizes may be capped before they are added
pub capped_sum : (a b : ℕ) → capped (a + b + 1) ≡ capped (capped a + capped b + 1)
capped_sum a b = omega arith

pub capped_suc : (a : ℕ) → capped (a + 1) ≡ capped (capped a + 1)
capped_suc a = omega arith

-- the marks m of a term
module _ (m : ℕ) (t : Term) (e : low m ≡ facts_of t) where
  pub tag_bit : m % 8 ≡ (root_of t).tag
  unfolding facts_of
  tag_bit = omega (arith, e, tag_bound t, bit_bound (closed t), bit_bound (closed t && plain t), bit_bound (plain t))

  pub closed_bit : eqb (m / 8 % 2) 1 ≡ closed t
  unfolding facts_of
  closed_bit =
      let b : m / 8 % 2 ≡ from_bool (closed t) = omega (arith, e, tag_bound t, bit_bound (closed t), bit_bound (closed t && plain t), bit_bound (plain t)) in
      rw b (bit_is (closed t))

  pub valued_bit : eqb (m / 16 % 2) 1 ≡ (closed t && plain t)
  unfolding facts_of
  valued_bit =
      let b : m / 16 % 2 ≡ from_bool (closed t && plain t) = omega (arith, e, tag_bound t, bit_bound (closed t), bit_bound (closed t && plain t), bit_bound (plain t)) in
      rw b (bit_is (closed t && plain t))

  pub plain_bit : eqb (m / 32 % 2) 1 ≡ plain t
  unfolding facts_of
  plain_bit =
      let b : m / 32 % 2 ≡ from_bool (plain t) = omega (arith, e, tag_bound t, bit_bound (closed t), bit_bound (closed t && plain t), bit_bound (plain t)) in
      rw b (bit_is (plain t))

  pub size_in : low m / 64 ≡ capped (size t)
  unfolding facts_of
  size_in = omega (arith, e, tag_bound t, bit_bound (closed t), bit_bound (closed t && plain t), bit_bound (plain t))

  pub size_most : (n : ℕ) → n < size_cap → leb (low m / 64) n ≡ leb (size t) n
  size_most n l = rw size_in (go (dec_lt n (size t)))
    where
      go : Dec (n < size t) → leb (capped (size t)) n ≡ leb (size t) n
      go (yes h) = rw (lt-leb (capped (size t)) n (omega arith), lt-leb (size t) n h)
      go (no h) = rw (le-leb (capped (size t)) n (omega arith), le-leb (size t) n (omega arith))

module _ {ws : List ℕ} {i : ℕ} (k : Marked ws i) where
  pub tag_at : marks_at ws i % 8 ≡ (root_of (term_at ws i)).tag
  tag_at = tag_bit (marks_at ws i) (term_at ws i) k.facts

  pub valued_at_lem : valued_at ws i ≡ holds_of (term_at ws i)
  valued_at_lem = valued_bit (marks_at ws i) (term_at ws i) k.facts

  pub plain_at : eqb (marks_at ws i / 32 % 2) 1 ≡ plain (term_at ws i)
  plain_at = plain_bit (marks_at ws i) (term_at ws i) k.facts

  pub closed_at : eqb (marks_at ws i / 8 % 2) 1 ≡ closed (term_at ws i)
  closed_at = closed_bit (marks_at ws i) (term_at ws i) k.facts

-- ---- the value that is kept
module _ (t : Term) (b : Bool) (h : holds_of t ≡ b) where
  pub kept_value : b ≡ true → value_of t ≡ eval (λ v. 0) t
  unfolding value_of
  kept_value e = rw (h, e) (omega arith)

  pub no_value : b ≡ false → value_of t ≡ 0
  unfolding value_of
  no_value e = rw (h, e) (omega arith)

module _ {ws : List ℕ} {i : ℕ} (f : Formed ws (suc i)) where
  -- a node that holds no value has 0 in its place
  pub no_value_zero : valued_at ws i ≡ false → value_at ws i ≡ 0
  no_value_zero h = value_here f ∙ no_value (term_at ws i) (valued_at ws i) (sym (valued_at_lem (marks_here f.shaped))) h

  pub value_is_kept : valued_at ws i ≡ true → value_at ws i ≡ eval (λ v. 0) (term_at ws i)
  value_is_kept h = value_here f ∙ kept_value (term_at ws i) (valued_at ws i) (sym (valued_at_lem (marks_here f.shaped))) h

-- ---- the value of a term by those of its parts
pub pair_eval : (o : Operation) (s t : Term) → eval (λ v. 0) (operation_of o s t) ≡ pair_value o (eval (λ v. 0) s) (eval (λ v. 0) t)
unfolding eval
pair_eval Sum s t = refl
pair_eval Difference s t = refl
pair_eval Mask s t = refl
