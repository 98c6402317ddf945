-- Words shifted. Assumes nothing.
use Rattle.std.proofs.Common.{◌≡◌, ℕ, ◌^◌, ◌/◌, ◌<◌, ◌≤◌, Option, None, Some, unwrap_or, sym, lt_of_lt_of_le, arith}
use Rattle.std.specs.Option.{SomeIff}
use native.Mathlib.Nat.{div-eq_of_lt, pow-le-pow_right}
use Rattle.model.specs.Word.{shift_w}

-- what is left of a word by a shift of less than 32 bits, or none: 32 bits and more leave nothing of it
pub shifted : (a count : ℕ) (left : Option ℕ) → a < 2 ^ 32 → SomeIff left (count < 32) (a / 2 ^ count) → unwrap_or left 0 ≡ shift_w count a
unfolding shift_w
shifted a count None word none =
    let out : 32 ≤ count = omega (arith, none) in
    sym (div-eq_of_lt (lt_of_lt_of_le word (pow-le-pow_right (omega arith) out)))
shifted a count (Some x) word some = some.1
