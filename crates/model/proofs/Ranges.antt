-- What the test of a range tells, in the definitions' tests. Assumes nothing.
use Prim.Native.Nat.{ℕ}
use mathlib.Core.Path.{◌≡◌, ◌∙◌}
use mathlib.Core.Bool.{Bool, ◌&&◌}
use native.Mathlib.Omega.{arith}
use lib.Dec.{leb, ltb}
use Rattle.std.specs.Ordering.{is_le, is_lt, nat_cmp}
use Rattle.std.proofs.lemmas.Bool.Decides.{nat_tests}

pub at_most : (a b : ℕ) → is_le (nat_cmp a b) ≡ leb a b
at_most a b = grind (arith, nat_tests)

pub below : (a b : ℕ) → is_lt (nat_cmp a b) ≡ ltb a b
below a b = grind (arith, nat_tests)

module _ (least n most : ℕ) {within : Bool} where
  -- of a range without its end
  pub told_below : within ≡ (is_le (nat_cmp least n) && is_lt (nat_cmp n most)) → within ≡ (leb least n && ltb n most)
  told_below is = is ∙ rw (at_most, below)

  -- of a range with its end
  pub told_at_most : within ≡ (is_le (nat_cmp least n) && is_le (nat_cmp n most)) → within ≡ (leb least n && leb n most)
  told_at_most is = is ∙ rw (at_most least n, at_most n most)
