use Rattle.lists.specs.Lists.{listed}
use Rattle.policy_regions.proofs.RegionsLaws.{Going}
use Rattle.policy_regions.proofs.read_regions.Given as goal

abbrev pub invariant-loop-j : goal.invariant-loop-j
invariant-loop-j l = Going l.bytes l.sizes (listed l.regions) l.j
