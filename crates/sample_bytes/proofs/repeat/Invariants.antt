use Rattle.std.proofs.Common.{◌≡◌, ℕ, ◌≤◌, ◌<◌, ◌+◌, length}
use Rattle.std.specs.Prelude.{max, min, get_or}
use Rattle.sample_bytes.proofs.repeat.Given as goal

-- so many bytes are written, and all others are what they were
abbrev pub invariant-loop : goal.invariant-loop
invariant-loop l =
    (length l.out ≡ length l.initial.out)
    × ((l.next ≡ max l.fn.at (min (l.fn.at + l.counter) (length l.initial.out)))
    × (((i : ℕ) → l.fn.at ≤ i → i < l.fn.at + l.counter → i < length l.initial.out → get_or l.out i 0 ≡ l.fn.x)
    × (((i : ℕ) → i < l.fn.at → get_or l.out i 0 ≡ get_or l.initial.out i 0)
    × ((i : ℕ) → l.fn.at + l.counter ≤ i → get_or l.out i 0 ≡ get_or l.initial.out i 0))))
