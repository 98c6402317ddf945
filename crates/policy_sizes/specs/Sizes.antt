-- A field of the sizes with its range. Assumes nothing.
use Rattle.std.specs.Prelude.{ℕ, ◌&&◌, List, length, leb}
use Rattle.model.specs.Result.{Result, Ok, ◌>>=◌, check}
use Rattle.model.specs.Field.{byte_at, word_at}
use Rattle.model.specs.Policy.{most_memory, policy_field}
use Rattle.model.specs.declared.Refusal.{Refusal}
use Rattle.model.specs.declared.Refusal.TheVariants.{PolicySize}

-- a number that is to be between two others, at a position
unfoldable pub in_range : (at least most n : ℕ) → Result ℕ Refusal
in_range at least most n = do
  _ ← check (leb least n && leb n most) (PolicySize at)
  Ok n

module _ (bytes : List ℕ) (at least most : ℕ) where
  -- the byte at a position, if it is there and in its range
  unfoldable pub size_byte : Result ℕ Refusal
  size_byte = do
    n ← policy_field bytes (byte_at bytes (length bytes) at)
    in_range at least most n

-- M, if it is there and in its range
unfoldable pub memory_field : List ℕ → Result ℕ Refusal
memory_field bytes = do
  n ← policy_field bytes (word_at bytes (length bytes) 4)
  in_range 4 1 most_memory n
