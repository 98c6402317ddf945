-- The policy: its reading with refusals 3 to 6, and the words that it makes readable and writable. Assumes nothing.
use Rattle.std.specs.Prelude.{ℕ, zero, suc, ◌+◌, ◌*◌, ◌/◌, ◌%◌, Bool, true, false, not, ◌&&◌, ◌||◌, List, [], ◌∷◌, length, leb, ltb, eqb}
use Rattle.model.specs.Result.{Result, Ok, ◌>>=◌, check, map_err}
use Rattle.model.specs.Word.{le32}
use Rattle.model.specs.Atom.{Atom, most_atoms}
use Rattle.model.specs.Field.{byte_at, word_at}
use Rattle.model.specs.declared.ReadError.{ReadError}
use Rattle.model.specs.declared.ReadError.TheVariants.{Missing, Fault}
use Rattle.model.specs.Expression.{register_count, atoms_at}
use Rattle.model.specs.declared.Region.{Region}
use Rattle.model.specs.declared.Sizes.{Sizes}
use Rattle.model.specs.declared.Refusal.{Refusal}
use Rattle.model.specs.declared.Refusal.TheVariants.{PolicyLength, PolicySize, BadRegion, PolicyExpression}

pub record Policy : Type 0 where
  pub memory : ℕ
  pub limit : ℕ
  pub regions : List Region
  pub precondition : List Atom
  pub postcondition : List Atom

-- ---- rights

abbrev pub may_read : Region → Bool
may_read r = eqb r.rights 1 || eqb r.rights 3

abbrev pub may_write : Region → Bool
may_write r = eqb r.rights 2 || eqb r.rights 3

abbrev pub covers : Region → ℕ → Bool
covers r w = leb r.base w && ltb w (r.base + r.size)

-- two regions have a word in common
abbrev pub overlaps : Region → Region → Bool
overlaps r q = ltb r.base (q.base + q.size) && ltb q.base (r.base + r.size)

-- "a word has every right that some region over it gives": of reading; of writing S-2 asks for more
unfoldable pub some_region : (Region → Bool) → List Region → ℕ → Bool
some_region right [] w = false
some_region right (r ∷ rs) w = (covers r w && right r) || some_region right rs w

-- every region of a kind has the write right: none "lacks it"
unfoldable pub all_writable : (kind : Region → Bool) → List Region → Bool
all_writable kind [] = true
all_writable kind (r ∷ rs) = (not (kind r) || may_write r) && all_writable kind rs

-- "M and above have none"
unfoldable pub readable_word : Policy → ℕ → Bool
readable_word policy w = ltb w policy.memory && some_region may_read policy.regions w

-- "a word is writable if a region over it has the write right and no region over it lacks it"
unfoldable pub writable_word : Policy → ℕ → Bool
writable_word policy w = ltb w policy.memory && some_region may_write policy.regions w && all_writable (λ r. covers r w) policy.regions

-- "Rule 23 fits only if region j overlaps no region without the write right"
unfoldable pub writable_region : List Region → Region → Bool
writable_region regions r = may_write r && all_writable (overlaps r) regions

-- ---- reading

-- "region count (1 byte, 1 to 8)", "M (4 bytes, 1 to 16,384)"
abbrev pub most_regions : ℕ
most_regions = 8

abbrev pub most_memory : ℕ
most_memory = 16384

-- "length 1 or more and base plus length, as whole numbers, at most M", and rights 1, 2 or 3
unfoldable pub region_fits : (memory : ℕ) → Region → Bool
region_fits memory r = leb 1 r.rights && leb 1 r.size && leb (r.base + r.size) memory

module _ (bytes : List ℕ) where
  -- "3: bytes missing (place: length)"; 6 for a fault in an atom
  unfoldable pub policy_refusal : ReadError → Refusal
  policy_refusal Missing = PolicyLength (length bytes)
  policy_refusal (Fault p) = PolicyExpression p

  abbrev pub policy_field : {A : Type 0} → Result A ReadError → Result A Refusal
  policy_field = map_err policy_refusal

  -- "4: count, zero byte or M out of range (its first byte)", in reading order
  unfoldable pub sizes_of : Result Sizes Refusal
  sizes_of = do
    regions ← policy_field (byte_at bytes (length bytes) 0)
    _ ← check (leb 1 regions && leb regions most_regions) (PolicySize 0)
    pre ← policy_field (byte_at bytes (length bytes) 1)
    _ ← check (leb pre most_atoms) (PolicySize 1)
    post ← policy_field (byte_at bytes (length bytes) 2)
    _ ← check (leb post most_atoms) (PolicySize 2)
    reserved ← policy_field (byte_at bytes (length bytes) 3)
    _ ← check (eqb reserved 0) (PolicySize 3)
    memory ← policy_field (word_at bytes (length bytes) 4)
    _ ← check (leb 1 memory && leb memory most_memory) (PolicySize 4)
    limit ← policy_field (word_at bytes (length bytes) 8)
    Ok (record { regions = regions; precondition = pre; postcondition = post; memory = memory; limit = limit })

  -- "two parallel arrays of 4-byte words: the bases, and length times 4 plus rights"
  unfoldable pub region_at : (count j : ℕ) → Region
  region_at count j =
      let base = le32 bytes (12 + 4 * j) in
      let extent = le32 bytes (12 + 4 * count + 4 * j) in
      record { base = base; size = extent / 4; rights = extent % 4 }

  -- "5: bad region (its number)": the regions from number j on, so many
  unfoldable pub regions_from : Sizes → (left j : ℕ) → Result (List Region) Refusal
  regions_from sizes zero j = Ok []
  regions_from sizes (suc left) j = do
    let r = region_at sizes.regions j
    _ ← check (region_fits sizes.memory r) (BadRegion j)
    rs ← regions_from sizes left (j + 1)
    Ok (r ∷ rs)

  -- "both region arrays are there before 5 is tested, 5 comes before any atom, spare bytes last"
  unfoldable pub read_policy : Result Policy Refusal
  read_policy = do
    sizes ← sizes_of
    let atoms = 12 + 8 * sizes.regions
    _ ← check (leb atoms (length bytes)) (PolicyLength (length bytes))
    regions ← regions_from sizes sizes.regions 0
    (pre, p) ← policy_field (atoms_at bytes (length bytes) register_count sizes.precondition atoms)
    (post, q) ← policy_field (atoms_at bytes (length bytes) register_count sizes.postcondition p)
    _ ← check (eqb q (length bytes)) (PolicyLength q)
    Ok (record { memory = sizes.memory; limit = sizes.limit; regions = regions; precondition = pre; postcondition = post })
