-- What a list in fixed memory holds. Assumes nothing.
use Rattle.std.specs.Prelude.{List, ℕ, take}
use Rattle.lists.specs.declared.Few.{Few}

-- the elements, without the rest of the array
abbrev pub listed : {T : Type 0} {N : ℕ} → Few T N → List T
listed few = take few.count few.list
