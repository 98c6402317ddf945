-- The loop over the regions, and what holds of the regions that are read. Assumes nothing.
use Prim.Native.Nat.{ℕ, zero, suc, ◌+◌, ◌-◌, ◌≤◌, ◌<◌}
use mathlib.Core.Path.{◌≡◌, refl, sym, ap, ◌∙◌}
use mathlib.Core.Bool.{Bool, true, false, ◌&&◌}
use mathlib.Core.List.{List, [], ◌∷◌, ◌++◌, append_assoc, append-nil}
use native.Mathlib.Omega.{arith}
use lib.ListN.{length, length-append}
use lib.Dec.{leb}
use borrow.Author.Tests.{leb-true}
use Rattle.std.specs.List.{All}
use Rattle.model.specs.Result.{Result, Err, Ok, ◌>>=◌, check, map_ok}
use Rattle.model.specs.Policy.{most_regions, region_at, region_fits, regions_from}
use Rattle.model.specs.declared.Region.{Region}
use Rattle.model.specs.declared.Sizes.{Sizes}
use Rattle.model.specs.declared.Refusal.{Refusal}
use Rattle.model.specs.declared.Refusal.TheVariants.{BadRegion}
use Rattle.lists.specs.Lists.{listed}
use Rattle.lists.proofs.Lists.{length_listed}
use Rattle.policy_regions.specs.Regions.{Regions, regions_result, region_read, Fitting}
use Rattle.model.proofs.Results.{then_then, value_then}
use Rattle.model.proofs.Gives.{Gives, gives, gives_then, gives_check, gives_value}
use Rattle.model.proofs.Terms.{and_right}

-- region j
module _ (bytes : List ℕ) (sizes : Sizes) (j : ℕ) (r : Region) (is : r ≡ region_at bytes sizes.regions j) (t : Bool) (judged : t ≡ region_fits sizes.memory r) where
  pub fit : t ≡ true → Ok r ≡ region_read bytes sizes j
  unfolding region_read ◌>>=◌ check
  fit e = rw (← is, ← judged, e)

  pub unfit : t ≡ false → Err (BadRegion j) ≡ region_read bytes sizes j
  unfolding region_read ◌>>=◌ check
  unfit e = rw (← is, ← judged, e)

-- what was read in front of the rest
unfoldable pub after : List Region → Result (List Region) Refusal → Result (List Region) Refusal
after front r = map_ok (λ rest. front ++ rest) r

-- After j regions: the whole reading is the list so far, and the reading from here.
pub record Going (bytes : List ℕ) (sizes : Sizes) (list : List Region) (j : ℕ) : Type 0 where
  pub within : j ≤ sizes.regions
  pub few : sizes.regions ≤ most_regions
  pub long : length list ≡ j
  pub rest : regions_from bytes sizes sizes.regions 0 ≡ after list (regions_from bytes sizes (sizes.regions - j) j)

none_before : (r : Result (List Region) Refusal) → r ≡ after [] r
unfolding after
none_before (Err x) = refl
none_before (Ok rest) = refl

pub begin : (bytes : List ℕ) (sizes : Sizes) (list : List Region) → sizes.regions ≤ most_regions → list ≡ [] → Going bytes sizes list 0
begin bytes sizes list few none =
    let e : sizes.regions - 0 ≡ sizes.regions = omega arith in
    record { within = omega arith; few = few; long = ap length none; rest = rw (none, e) (none_before (regions_from bytes sizes sizes.regions 0)) }

-- one region more, and then the rest
one_more : (front : List Region) (r : Region) (m : Result (List Region) Refusal) → after front (m >>= (λ rest. Ok (r ∷ rest))) ≡ after (front ++ (r ∷ [])) m
unfolding after ◌>>=◌
one_more front r (Err x) = refl
one_more front r (Ok rest) = ap Ok (sym (append_assoc front (r ∷ []) rest))

module _ (bytes : List ℕ) (sizes : Sizes) (list : List Region) (j : ℕ) (g : Going bytes sizes list j) where
  module _ (h : j < sizes.regions) where
    -- the reading from here is region j and then the rest
    from_here : (region_read bytes sizes j >>= λ r. regions_from bytes sizes (sizes.regions - (j + 1)) (j + 1) >>= λ rs. Ok (r ∷ rs)) ≡ regions_from bytes sizes (sizes.regions - j) j
    unfolding region_read regions_from
    from_here =
        let left : sizes.regions - j ≡ suc (sizes.regions - (j + 1)) = omega arith in
        rw left (simp (then_then, value_then))

    pub further : (r : Region) → Ok r ≡ region_read bytes sizes j → (more : List Region) → more ≡ list ++ r ∷ [] → Going bytes sizes more (j + 1)
    unfolding ◌>>=◌
    further r e more is = rw is (record {
      within = omega arith;
      few = g.few;
      long = simp length-append (omega (arith, g.long));
      rest = g.rest ∙ rw (← from_here, ← e) (one_more list r _);
    })

    pub stops : (x : Refusal) → Err x ≡ region_read bytes sizes j → regions_result (Err x) ≡ regions_from bytes sizes sizes.regions 0
    unfolding ◌>>=◌ regions_result after
    stops x e = sym (g.rest ∙ rw (← from_here, ← e))

  pub ends : sizes.regions ≤ j → Ok list ≡ regions_from bytes sizes sizes.regions 0
  unfolding regions_from after
  ends h =
      let z : sizes.regions - j ≡ 0 = omega arith in
      sym (g.rest ∙ rw z (ap Ok (append-nil list)))

-- What holds of the regions that are read: there are so many, and each ends within M.
one_ends : (memory : ℕ) (r : Region) (rs : List Region) → region_fits memory r ≡ true → All (λ x. x.base + x.size ≤ memory) rs → All (λ x. x.base + x.size ≤ memory) (r ∷ rs)
unfolding region_fits
one_ends memory r rs e es zero d h = leb-true (r.base + r.size) memory (and_right (leb 1 r.rights && leb 1 r.size) (leb (r.base + r.size) memory) e)
one_ends memory r rs e es (suc k) d h = es k d (omega arith)

all_end : (bytes : List ℕ) (s : Sizes) (left j : ℕ) → Gives (λ rs. (length rs ≡ left) × All (λ r. r.base + r.size ≤ s.memory) rs) (regions_from bytes s left j)
unfolding regions_from
all_end bytes s zero j = gives (refl, λ k d h. absurd (omega arith))
all_end bytes s (suc left) j =
    gives_then (gives_check (region_fits s.memory (region_at bytes s.regions j)) (BadRegion j)) λ _ e.
    gives_then (all_end bytes s left (j + 1)) λ rs h.
    gives (ap suc h.0, one_ends s.memory _ rs e h.1)

pub fitting : (bytes : List ℕ) (sizes : Sizes) (regions : Regions) → Ok (listed regions) ≡ regions_from bytes sizes sizes.regions 0 → Fitting sizes regions
fitting bytes sizes regions e =
    let f = gives_value (sym e) (all_end bytes sizes sizes.regions 0) in
    let n = length_listed regions in
    record { counted = sym n ∙ f.0; whole = n; ends = f.1 }
