use Prim.Native.Nat.{◌-◌}
use lib.ListN.{length}
use Rattle.targets.proofs.Searches.{Searching}
use Rattle.targets.proofs.search.position.Given as goal

abbrev pub invariant-loop-at : goal.invariant-loop-at
invariant-loop-at l = Searching l.annotations l.index l.at

abbrev pub decreases-loop-at : goal.decreases-loop-at
decreases-loop-at l = length l.annotations - l.at
