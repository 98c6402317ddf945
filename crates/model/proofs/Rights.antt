-- The right to write, of a word and of a region: what the definitions say, region by region. Assumes nothing.
use Prim.Native.Nat.{ℕ, zero, suc, ◌+◌, ◌≤◌, ◌<◌}
use mathlib.Core.Path.{◌≡◌, refl}
use mathlib.Core.Bool.{Bool, true, false, not, ◌&&◌, ◌||◌}
use mathlib.Core.List.{List, [], ◌∷◌}
use mathlib.Core.Option.{some}
use native.Mathlib.Omega.{arith}
use lib.Dec.{leb, ltb}
use lib.ListN.{get_elem?}
use borrow.Author.Tests.{leb-true, leb-false, ltb-true, lt-ltb, le-leb}
use Rattle.model.specs.Policy.{may_write, covers, overlaps, some_region, all_writable, writable_word, writable_region, region_fits}
use Rattle.model.specs.Rights.{MayBeWritten, Writable, Fitting, WhollyWritable}
use Rattle.model.specs.declared.Region.{Region}
use Rattle.model.proofs.Terms.{and_left, and_right, and_both, or_right}

-- ---- regions in a list

module _ (right : Region → Bool) (w : ℕ) where
  -- one of them over the word, with the right
  pub record Given (regions : List Region) : Type 0 where
    pub number : ℕ
    pub region : Region
    pub listed : get_elem? regions number ≡ some region
    pub covered : covers region w ≡ true
    pub given : right region ≡ true

  pub some_given : (regions : List Region) → some_region right regions w ≡ true → Given regions
  unfolding some_region
  some_given [] h = let z : ◌≡◌ {A = ℕ} 0 1 = cc in absurd (omega arith)
  some_given (r ∷ rs) h = go (covers r w && right r) refl (some_given rs)
    where
      go : (b : Bool) → (covers r w && right r) ≡ b → (some_region right rs w ≡ true → Given rs) → Given (r ∷ rs)
      go true e later = record { number = 0; region = r; listed = refl; covered = and_left (covers r w) (right r) e; given = and_right (covers r w) (right r) e }
      go false e later =
          let g = later (rw e at h) in
          record { number = suc g.number; region = g.region; listed = g.listed; covered = g.covered; given = g.given }

  pub given_some : (regions : List Region) (j : ℕ) (r : Region) → get_elem? regions j ≡ some r → covers r w ≡ true → right r ≡ true → some_region right regions w ≡ true
  unfolding some_region
  given_some [] j r e c g = let z : ◌≡◌ {A = ℕ} 0 1 = cc in absurd (omega arith)
  given_some (q ∷ qs) zero r e c g = let s : q ≡ r = cc in rw s (simp (c, g))
  given_some (q ∷ qs) (suc j) r e c g = or_right (covers q w && right q) _ (given_some qs j r e c g)

module _ (kind : Region → Bool) where
  -- each of a kind may be written
  pub Each : List Region → Type 0
  Each regions = (j : ℕ) (r : Region) → get_elem? regions j ≡ some r → kind r ≡ true → may_write r ≡ true

  pub all_each : (regions : List Region) → all_writable kind regions ≡ true → Each regions
  unfolding all_writable Each
  all_each [] h j r e k = let z : ◌≡◌ {A = ℕ} 0 1 = cc in absurd (omega arith)
  all_each (q ∷ qs) h zero r e k =
      let s : q ≡ r = cc in
      rw k at (rw s at (and_left (not (kind q) || may_write q) _ h))
  all_each (q ∷ qs) h (suc j) r e k = all_each qs (and_right (not (kind q) || may_write q) _ h) j r e k

  pub each_all : (regions : List Region) → Each regions → all_writable kind regions ≡ true
  unfolding all_writable Each
  each_all [] h = refl
  each_all (q ∷ qs) h = and_both _ _ (go (kind q) refl) (each_all qs (λ j r e k. h (suc j) r e k))
    where
      go : (b : Bool) → kind q ≡ b → (not (kind q) || may_write q) ≡ true
      go true e = rw e (h 0 q refl e)
      go false e = rw e

-- ---- a word

pub writable : Writable
unfolding Writable writable_word Each
writable policy w = (says, said)
  where
    says : writable_word policy w ≡ true → MayBeWritten policy w
    says h =
        let first = and_left (ltb w policy.memory && some_region may_write policy.regions w) _ h in
        let given = some_given may_write w policy.regions (and_right (ltb w policy.memory) _ first) in
        record {
          inside = ltb-true w policy.memory (and_left (ltb w policy.memory) _ first);
          region = given.region;
          over = record { number = given.number; listed = given.listed; covered = given.covered };
          each = λ r o. all_each (λ q. covers q w) policy.regions (and_right (ltb w policy.memory && some_region may_write policy.regions w) _ h) o.number r o.listed o.covered;
        }

    said : MayBeWritten policy w → writable_word policy w ≡ true
    said m =
        let o = m.over in
        and_both _ _ (and_both _ _ (lt-ltb w policy.memory m.inside) (given_some may_write w policy.regions o.number m.region o.listed o.covered (m.each m.region o)))
        (each_all (λ q. covers q w) policy.regions (λ j r e c. m.each r (record { number = j; listed = e; covered = c })))

-- ---- a region

within : (r : Region) (w : ℕ) → r.base ≤ w → w < r.base + r.size → covers r w ≡ true
within r w h k = and_both _ _ (le-leb r.base w h) (lt-ltb w (r.base + r.size) k)

module _ (r q : Region) where
  -- a word that both lie over
  record Shared : Type 0 where
    word : ℕ
    first : covers r word ≡ true
    second : covers q word ≡ true

  -- two regions that overlap share the later of their first words
  overlap_shared : 1 ≤ r.size → 1 ≤ q.size → overlaps r q ≡ true → Shared
  overlap_shared m n e = go (leb r.base q.base) refl
    where
      go : (b : Bool) → leb r.base q.base ≡ b → Shared
      go true t =
          let from = leb-true r.base q.base t in
          let to = ltb-true q.base _ (and_right (ltb r.base _) _ e) in
          record { word = q.base; first = within r q.base from (omega arith); second = within q q.base (omega arith) (omega arith) }
      go false t =
          let from = leb-false r.base q.base t in
          let to = ltb-true r.base _ (and_left (ltb r.base _) _ e) in
          record { word = r.base; first = within r r.base (omega arith) (omega arith); second = within q r.base (omega arith) (omega arith) }

  -- two regions over a word overlap
  pub over_overlaps : (w : ℕ) → covers r w ≡ true → covers q w ≡ true → overlaps r q ≡ true
  over_overlaps w h k =
      let r-from = leb-true r.base w (search and_left) in
      let r-to = ltb-true w (r.base + r.size) (search and_right) in
      let q-from = leb-true q.base w (search and_left) in
      let q-to = ltb-true w (q.base + q.size) (search and_right) in
      and_both _ _ (lt-ltb r.base (q.base + q.size) (omega arith)) (lt-ltb q.base (r.base + r.size) (omega arith))

-- rule 23's region
pub wholly_writable : WhollyWritable
unfolding WhollyWritable Writable Fitting writable_region region_fits Each
wholly_writable policy fit j r e = (words, region)
  where
    base_inside : (k : ℕ) (q : Region) → get_elem? policy.regions k ≡ some q → 1 ≤ q.size
    base_inside k q l = leb-true 1 q.size (and_right (leb 1 q.rights) _ (and_left (leb 1 q.rights && leb 1 q.size) _ (fit k q l)))

    words : writable_region policy.regions r ≡ true → (w : ℕ) → covers r w ≡ true → writable_word policy w ≡ true
    words h w c =
        let end = leb-true (r.base + r.size) policy.memory (and_right (leb 1 r.rights && leb 1 r.size) _ (fit j r e)) in
        let below = ltb-true w (r.base + r.size) (search and_right) in
        (writable policy w).1
        (record {
          inside = omega arith;
          region = r;
          over = record { number = j; listed = e; covered = c };
          each = λ q o. all_each (overlaps r) policy.regions (and_right (may_write r) _ h) o.number q o.listed (over_overlaps r q w c o.covered);
        })

    region : ((w : ℕ) → covers r w ≡ true → writable_word policy w ≡ true) → writable_region policy.regions r ≡ true
    region h =
        let own = within r r.base (omega arith) (omega (arith, base_inside j r e)) in
        and_both _ _ (((writable policy r.base).0 (h r.base own)).each r (record { number = j; listed = e; covered = own }))
        (each_all (overlaps r) policy.regions λ k q l o.
        let s = overlap_shared r q (base_inside j r e) (base_inside k q l) o in
        ((writable policy s.word).0 (h s.word s.first)).each q (record { number = k; listed = l; covered = s.second }))
