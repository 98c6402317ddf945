-- The ways out of the functions that read the sizes. Assumes nothing.
use Prim.Native.Nat.{ℕ, zero, suc, ◌+◌, ◌≤◌, ◌<◌}
use mathlib.Core.Path.{◌≡◌, refl, sym, ◌∙◌}
use mathlib.Core.Bool.{Bool, true, false, ◌&&◌}
use mathlib.Core.List.{List}
use native.Mathlib.Omega.{arith}
use lib.ListN.{length, get_or}
use lib.Dec.{leb, eqb, leb-zero, leb-suc-zero, eqb-suc-zero}
use borrow.Author.Tests.{le-leb, lt-leb, leb-true}
use Rattle.std.specs.Ordering.{is_le, nat_cmp}
use Rattle.model.specs.Result.{Result, Err, Ok, ◌>>=◌, check, map_err}
use Rattle.model.specs.Word.{le32}
use Rattle.model.specs.Atom.{most_atoms}
use Rattle.model.specs.Field.{byte_at, word_at}
use Rattle.model.specs.Policy.{most_regions, most_memory, policy_field, policy_refusal, sizes_of}
use Rattle.model.specs.declared.Sizes.{Sizes}
use Rattle.model.specs.declared.Refusal.{Refusal}
use Rattle.model.specs.declared.Refusal.TheVariants.{PolicyLength, PolicySize}
use Rattle.policy_sizes.specs.Sizes.{in_range, size_byte, memory_field}
use Rattle.model.proofs.Ranges.{told_at_most}
use Rattle.model.proofs.Results.{then_then, value_then}
use Rattle.model.proofs.Gives.{Gives, gives, gives_then, gives_check, gives_any}
use Rattle.model.proofs.Terms.{and_left, and_right}

-- in_range

module _ (at least most n : ℕ) (within : Bool) (is : within ≡ (is_le (nat_cmp least n) && is_le (nat_cmp n most))) where
  pub inside : within ≡ true → Ok n ≡ in_range at least most n
  unfolding in_range ◌>>=◌ check
  inside t = rw (← told_at_most least n most is, t)

  pub outside : within ≡ false → Err (PolicySize at) ≡ in_range at least most n
  unfolding in_range ◌>>=◌ check
  outside t = rw (← told_at_most least n most is, t)

-- a byte, and a word, that are there or not
module _ (bytes : List ℕ) (at : ℕ) where
  pub no_byte : (least most : ℕ) → length bytes ≤ at → Err (PolicyLength (length bytes)) ≡ size_byte bytes at least most
  unfolding size_byte byte_at ◌>>=◌ check map_err policy_refusal
  no_byte least most h = rw (lt-leb (at + 1) (length bytes) (omega arith))

  pub a_byte : (least most : ℕ) → at < length bytes → in_range at least most (get_or bytes at 0) ≡ size_byte bytes at least most
  unfolding size_byte byte_at ◌>>=◌ check map_err
  a_byte least most h = rw (le-leb (at + 1) (length bytes) (omega arith))

  pub no_word : length bytes < at + 4 → Err (PolicyLength (length bytes)) ≡ policy_field bytes (word_at bytes (length bytes) at)
  unfolding word_at ◌>>=◌ check map_err policy_refusal
  no_word h = rw (lt-leb (at + 4) (length bytes) h)

  pub a_word : at + 4 ≤ length bytes → Ok (le32 bytes at) ≡ policy_field bytes (word_at bytes (length bytes) at)
  unfolding word_at ◌>>=◌ check map_err
  a_word h = rw (le-leb (at + 4) (length bytes) h)

-- read_sizes
at_most_zero : (n : ℕ) → leb n 0 ≡ eqb n 0
at_most_zero zero = refl
at_most_zero (suc n) = leb-suc-zero n ∙ sym (eqb-suc-zero n)

-- the definition with each field and its range as one
unfoldable pub sizes_by : List ℕ → Result Sizes Refusal
sizes_by bytes = do
  regions ← size_byte bytes 0 1 most_regions
  pre ← size_byte bytes 1 0 most_atoms
  post ← size_byte bytes 2 0 most_atoms
  _ ← size_byte bytes 3 0 0
  memory ← memory_field bytes
  limit ← policy_field bytes (word_at bytes (length bytes) 8)
  Ok (record { regions = regions; precondition = pre; postcondition = post; memory = memory; limit = limit })

pub by_fields : (bytes : List ℕ) → sizes_of bytes ≡ sizes_by bytes
unfolding sizes_by sizes_of size_byte memory_field in_range
by_fields bytes = simp (then_then, value_then, leb-zero, at_most_zero)

-- What holds of the sizes that are read.
in_range_lem : (at least most n : ℕ) → Gives (λ m. (least ≤ m) × (m ≤ most)) (in_range at least most n)
unfolding in_range
in_range_lem at least most n = gives_then (gives_check (leb least n && leb n most) (PolicySize at)) λ _ e. gives (leb-true least n (and_left (leb least n) (leb n most) e), leb-true n most (and_right (leb least n) (leb n most) e))

pub record Sized (s : Sizes) : Type 0 where
  pub some_regions : 1 ≤ s.regions
  pub few_regions : s.regions ≤ most_regions
  pub few_precondition : s.precondition ≤ most_atoms
  pub few_postcondition : s.postcondition ≤ most_atoms
  pub some_memory : 1 ≤ s.memory
  pub small_memory : s.memory ≤ most_memory

module _ (bytes : List ℕ) where
  byte_range : (at least most : ℕ) → Gives (λ m. (least ≤ m) × (m ≤ most)) (size_byte bytes at least most)
  unfolding size_byte
  byte_range at least most = gives_then (gives_any (policy_field bytes (byte_at bytes (length bytes) at))) λ n _. in_range_lem at least most n

  memory_range : Gives (λ m. (1 ≤ m) × (m ≤ most_memory)) (memory_field bytes)
  unfolding memory_field
  memory_range = gives_then (gives_any (policy_field bytes (word_at bytes (length bytes) 4))) λ n _. in_range_lem 4 1 most_memory n

  pub sized : Gives Sized (sizes_of bytes)
  unfolding sizes_by
  sized = rw (by_fields bytes)
      (gives_then (byte_range 0 1 most_regions) λ regions r.
      gives_then (byte_range 1 0 most_atoms) λ pre p.
      gives_then (byte_range 2 0 most_atoms) λ post q.
      gives_then (byte_range 3 0 0) λ _ _.
      gives_then memory_range λ memory m.
      gives_then (gives_any (policy_field bytes (word_at bytes (length bytes) 8))) λ limit _.
      gives (record { some_regions = r.0; few_regions = r.1; few_precondition = p.1; few_postcondition = q.1; some_memory = m.0; small_memory = m.1 }))
