-- What is read of the regions, in the definitions' terms. Assumes nothing.
use Rattle.std.specs.Prelude.{ℕ, ◌+◌, ◌≤◌, ◌≡◌, List, length, All}
use Rattle.model.specs.Result.{Result, Ok, ◌>>=◌, check, map_ok}
use Rattle.model.specs.Policy.{most_regions, region_at, region_fits}
use Rattle.model.specs.declared.Region.{Region}
use Rattle.model.specs.declared.Sizes.{Sizes}
use Rattle.model.specs.declared.Refusal.{Refusal}
use Rattle.model.specs.declared.Refusal.TheVariants.{BadRegion}
use Rattle.lists.specs.declared.Few.{Few}
-- passed on to users of this module: the regions, without the rest of their memory
pub use Rattle.lists.specs.Lists.{listed}

-- the regions of a policy
abbrev pub Regions : Type 0
Regions = Few Region most_regions

-- the regions read, or why the policy is refused
unfoldable pub regions_result : Result Regions Refusal → Result (List Region) Refusal
regions_result r = map_ok listed r

-- region j, if it fits
unfoldable pub region_read : List ℕ → Sizes → (j : ℕ) → Result Region Refusal
region_read bytes sizes j = do
  _ ← check (region_fits sizes.memory (region_at bytes sizes.regions j)) (BadRegion j)
  Ok (region_at bytes sizes.regions j)

-- what holds of the regions that are read: there are as many as the sizes say, the list has them all, and each ends within M
pub record Fitting (sizes : Sizes) (regions : Regions) : Type 0 where
  pub counted : regions.count ≡ sizes.regions
  pub whole : length (listed regions) ≡ regions.count
  pub ends : All (λ r. r.base + r.size ≤ sizes.memory) (listed regions)
