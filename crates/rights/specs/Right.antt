-- The right to a word, and to every word of a region. Assumes nothing.
use Rattle.std.specs.Prelude.{ℕ, Bool, List, []}
use Rattle.model.specs.Policy.{Policy, may_read, may_write, readable_word, writable_word, writable_region}
use Rattle.model.specs.declared.Region.{Region}
use Rattle.model.specs.declared.Right.{Right}
use Rattle.model.specs.declared.Right.TheVariants.{Read, Write}

-- whether a region gives the right
abbrev pub grants : Right → Region → Bool
grants Read = may_read
grants Write = may_write

-- a policy with that memory size and these regions: rights depend on nothing else
abbrev pub table : (memory : ℕ) → List Region → Policy
table memory regions = record { memory = memory; limit = 0; regions = regions; precondition = []; postcondition = [] }

abbrev pub readable_in : (memory : ℕ) → List Region → (w : ℕ) → Bool
readable_in memory regions = readable_word (table memory regions)

abbrev pub writable_in : (memory : ℕ) → List Region → (w : ℕ) → Bool
writable_in memory regions = writable_word (table memory regions)

-- what rules 22 and 23 ask of one of these regions
abbrev pub grants_throughout : Right → List Region → Region → Bool
grants_throughout Read regions = may_read
grants_throughout Write regions = writable_region regions
