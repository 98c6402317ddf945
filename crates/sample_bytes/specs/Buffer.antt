-- A lent buffer that is written. Assumes nothing.
use Rattle.std.specs.Prelude.{◌≡◌, ℕ, List, length}
use Rattle.std.specs.Borrow.{MutBor}

-- it is the same buffer
abbrev pub Same : MutBor (List ℕ) → MutBor (List ℕ) → Type 0
Same before after = (after.ref_ptr ≡ before.ref_ptr) × (length after.now ≡ length before.now)
