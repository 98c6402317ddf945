-- How long a list in fixed memory is. Assumes nothing.
use Prim.Native.Nat.{ℕ}
use mathlib.Core.Path.{◌≡◌}
use lib.ListN.{length}
use lib.Seq.{length-take-le}
use Rattle.lists.specs.Lists.{listed}
use Rattle.lists.specs.declared.Few.{Few}

pub length_listed : {T : Type 0} {N : ℕ} (few : Few T N) → length (listed few) ≡ few.count
length_listed few = length-take-le few.count few.list (rw few.whole few.within)
