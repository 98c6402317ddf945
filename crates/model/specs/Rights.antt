-- What the right to write is, as statements. Their proofs stand in proofs/.
use Rattle.std.specs.Prelude.{ℕ, ◌<◌, ◌≡◌, true}
use Rattle.std.proofs.Math.Option.{some}
use Rattle.std.proofs.Math.ListN.{get_elem?}
use Rattle.model.specs.Policy.{Policy, may_write, covers, writable_word, writable_region, region_fits}
use Rattle.model.specs.declared.Region.{Region}

-- a region of the policy that lies over a word
pub record Over (policy : Policy) (w : ℕ) (r : Region) : Type 0 where
  pub number : ℕ
  pub listed : get_elem? policy.regions number ≡ some r
  pub covered : covers r w ≡ true

-- "a region over it has the write right and no region over it lacks it"
pub record MayBeWritten (policy : Policy) (w : ℕ) : Type 0 where
  pub inside : w < policy.memory
  pub region : Region
  pub over : Over policy w region
  pub each : (r : Region) → Over policy w r → may_write r ≡ true

-- `writable_word` says that of a word, and no more
unfoldable pub Writable : Type 0
Writable = (policy : Policy) (w : ℕ) → (writable_word policy w ≡ true → MayBeWritten policy w) × (MayBeWritten policy w → writable_word policy w ≡ true)

-- every region of the policy passes check 5
unfoldable pub Fitting : Policy → Type 0
Fitting policy = (j : ℕ) (r : Region) → get_elem? policy.regions j ≡ some r → region_fits policy.memory r ≡ true

-- The regions that rule 23 takes are those of which every word is writable.
unfoldable pub WhollyWritable : Type 0
WhollyWritable =
    (policy : Policy) → Fitting policy
    → (j : ℕ) (r : Region) → get_elem? policy.regions j ≡ some r
    → (writable_region policy.regions r ≡ true → (w : ℕ) → covers r w ≡ true → writable_word policy w ≡ true)
    × (((w : ℕ) → covers r w ≡ true → writable_word policy w ≡ true) → writable_region policy.regions r ≡ true)
