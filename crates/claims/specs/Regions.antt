-- The policy's regions as a list. Assumes nothing.
use Rattle.std.specs.Prelude.{◌≡◌, List, ◌+◌, ◌^◌, ◌<◌, ◌≤◌, length}
use Rattle.std.specs.List.{All}
use Rattle.model.specs.Policy.{Policy, most_regions}
use Rattle.model.specs.Goals.{Goal}
use Rattle.model.specs.declared.Region.{Region}

-- regions as a policy has them: few, each of which ends below 2^32
pub record RegionList (regions : List Region) : Type 0 where
  pub few : length regions ≤ most_regions
  pub small : All (λ r. r.base + r.size < 2 ^ 32) regions

-- where the policy's regions are these
abbrev pub Over : List Region → Policy → Goal → Type 0
Over regions policy g = policy.regions ≡ regions
