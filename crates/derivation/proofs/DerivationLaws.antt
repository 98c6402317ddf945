-- Laws of the derivation checker: one for each way out, and one for a premise that is derived. Assumes nothing.
use mathlib.Core.Path.{◌≡◌, refl, sym, ap, subst, ◌∙◌}
use mathlib.Core.List.{List, [], ◌∷◌}
use Prim.Native.Nat.{ℕ, zero, suc, ◌+◌, ◌-◌, ◌*◌, ◌<◌, ◌≤◌}
use native.Mathlib.Omega.{arith}
use lib.ListN.{length, get_or, drop}
use Rattle.std.specs.Prelude.{map}
use Rattle.std.specs.List.{All}
use Rattle.std.proofs.Common.{add-one}
use Rattle.std.proofs.Math.Seq.{drop-cons}
use Rattle.std.proofs.lemmas.List.{drop_all}
use Rattle.model.specs.Result.{Result, Err, Ok, ◌>>=◌, map_err}
use Rattle.model.specs.Atom.{Atom}
use Rattle.model.specs.Policy.{Policy}
use Rattle.model.specs.Goals.{Goal, Claim as Claimed, atom}
use Rattle.model.specs.Rule.{Rule, premises}
use Rattle.model.specs.Derivation.{rule_at, derive_all, derive}
use Rattle.model.specs.declared.Refusal.{Refusal}
use Rattle.model.specs.declared.Refusal.TheVariants.{UnfitRule, DeepDerivation}
use Rattle.model.specs.declared.Region.{Region}
use Rattle.model.proofs.Results.{then_same, then_then}
use Rattle.model_laws.specs.Bounded.{ClaimBounded}
use Rattle.workspace.specs.Layout.{Same}
use Rattle.nodes.specs.Atoms.{atom_in}
use Rattle.nodes.specs.Table.{place, Space}
use Rattle.nodes.specs.declared.Atom.{Atom as NodeAtom}
use Rattle.workspace.proofs.Frames.{same_refl, same_trans, same_within}
use Rattle.workspace.specs.Room.{level_room}
use Rattle.claims.specs.Parts.{claim_of}
use Rattle.claims.specs.Plan.{listed, premises_of}
use Rattle.claims.specs.Regions.{RegionList}
use Rattle.derivation.specs.Deriving.{Judged, Prepared, Derivable, applied, PremiseWithin, Applies, Derives}
use Rattle.claims.specs.declared.Claim.{Claim}
use Rattle.claims.specs.declared.Claim.TheVariants.{Atom as AtomClaim}
use Rattle.claims.specs.declared.Scope.{Scope}
use Rattle.claims.specs.declared.Plan.{Plan}
use Rattle.model_laws.proofs.Steps.{stops, goes_on}
use Rattle.derivation.proofs.ApplyLaws.{prepared_grown, prepared_kept, judged_kept, claim_kept}

-- ---- the definition, by one rule and its premises
module _ (bytes : List ℕ) (policy : Policy) (g : Goal) where
  -- derivations of so many levels, one after the other
  abbrev derives : (levels : ℕ) → List Atom → (p : ℕ) → Result ℕ Refusal
  derives levels atoms p = derive_all bytes (λ c r. derive bytes policy g levels c r) atoms p

  by_rule : (levels : ℕ) (c : Claimed) (at : ℕ) → (applied bytes policy g c at >>= λ s. derives levels s.0 s.1) ≡ derive bytes policy g (suc levels) c at
  unfolding applied derive ◌>>=◌
  by_rule levels c at =
      let r : Result (Rule × ℕ) Refusal = rule_at bytes g.variables at in
      let asked : Rule × ℕ → Result (List Atom) Refusal = λ x. map_err (λ _. UnfitRule at) (premises policy g x.0 c) in
      let plan : Rule × ℕ → Result (List Atom × ℕ) Refusal = λ x. asked x >>= λ atoms. Ok (atoms, x.1) in
      let next : List Atom × ℕ → Result ℕ Refusal = λ s. derives levels s.0 s.1 in
      let one : ((r >>= plan) >>= next) ≡ (r >>= λ x. plan x >>= next) = then_then r plan next in
      let two : (r >>= λ x. plan x >>= next) ≡ (r >>= λ x. asked x >>= λ atoms. derives levels atoms x.1) = then_same r (λ x. then_then (asked x) (λ atoms. Ok (atoms, x.1)) next) in
      one ∙ two

  unroll : (levels : ℕ) (c : Claimed) (at : ℕ) → (levels ≡ 0 → ⊥) → (applied bytes policy g c at >>= λ s. derives (levels - 1) s.0 s.1) ≡ derive bytes policy g levels c at
  unroll zero c at h = absurd (h refl)
  unroll (suc k) c at h = ap (λ n. applied bytes policy g c at >>= λ s. derives n s.0 s.1) (pred k) ∙ by_rule k c at
    where
      pred : (k : ℕ) → suc k - 1 ≡ k
      pred k = omega arith

  first_derived : (levels : ℕ) (a : Atom) (rest : List Atom) (p : ℕ) {r : Result ℕ Refusal} → r ≡ derive bytes policy g levels (atom a) p → (r >>= λ q. derives levels rest q) ≡ derives levels (a ∷ rest) p
  unfolding derive_all
  first_derived levels a rest p e = rw e

-- ---- the premises that are due
-- At the words us: the premises from number k on, from position `reached` on, are what is left of all of them from `next` on; the words vs
-- had the plan's table too.
pub record Running (bytes : List ℕ) (regions : List Region) (vs us : List ℕ) (scope : Scope) (levels top : ℕ) (due : List NodeAtom) (next k reached : ℕ) : Type 0 where
  pub so_far : (policy : Policy) (g : Goal) → Judged regions vs scope policy g
      → derives bytes policy g (levels - 1) (map (atom_in vs) (drop k due)) reached ≡ derives bytes policy g (levels - 1) (map (atom_in vs) due) next
  pub before : Prepared vs top scope
  pub same : Same 0 (place top) vs us
  pub long : length us ≡ length vs
  pub regions_fit : RegionList regions
  pub space : Space vs top (level_room * (levels - 1))
  pub within : All (PremiseWithin vs top scope.variables) due
  pub onward : (next ≤ reached) × (reached ≤ length bytes)

module _ {bytes : List ℕ} {regions : List Region} {vs us : List ℕ} {scope : Scope} {levels top : ℕ} {due : List NodeAtom} {next k reached : ℕ} (w : Running bytes regions vs us scope levels top due next k reached) where
  module _ (more : k < length due) (other : NodeAtom) where
    within : PremiseWithin vs top scope.variables (get_or due k other)
    within = w.within k other more

    claims : claim_of us (AtomClaim (get_or due k other)) ≡ atom (atom_in vs (get_or due k other))
    claims = claim_kept top (AtomClaim (get_or due k other)) w.same within.below

    -- what the derivation of a premise asks
    pub premise_asks : Derivable us regions scope (levels - 1) top (AtomClaim (get_or due k other))
    premise_asks = record {
      prepared = prepared_kept w.same w.before w.long;
      regions_fit = w.regions_fit;
      space = record { words = omega (arith, w.long, w.space.words); fits = w.space.fits };
      below = within.below;
      bounded = subst (ClaimBounded scope.variables) (sym claims) within.bounded;
    }

    module _ {xs : List ℕ} {r : Result ℕ Refusal} (d : Derives bytes regions us xs scope (levels - 1) top (AtomClaim (get_or due k other)) reached r) where
      -- what its answer leads to
      pub followed : (policy : Policy) (g : Goal) → Judged regions vs scope policy g
          → (r >>= λ m. derives bytes policy g (levels - 1) (map (atom_in vs) (drop (k + 1) due)) m) ≡ derives bytes policy g (levels - 1) (map (atom_in vs) due) next
      followed policy g j =
          let next_is : drop k due ≡ get_or due k other ∷ drop (k + 1) due = rw add-one (drop-cons due k other more) in
          first_derived bytes policy g (levels - 1) (atom_in vs (get_or due k other)) (map (atom_in vs) (drop (k + 1) due)) reached (d.answer policy g (judged_kept w.same w.before j) ∙ ap (λ b. derive bytes policy g (levels - 1) b reached) claims)
          ∙ ap (λ l. derives bytes policy g (levels - 1) (map (atom_in vs) l) reached) (sym next_is)
          ∙ w.so_far policy g j

    -- the other premises are due
    pub premise_derived : {xs : List ℕ} {m : ℕ} → Derives bytes regions us xs scope (levels - 1) top (AtomClaim (get_or due k other)) reached (Ok m) → length xs ≡ length us → Running bytes regions vs xs scope levels top due next (k + 1) m
    unfolding ◌>>=◌
    premise_derived d l = record {
      so_far = followed d;
      before = w.before;
      same = same_trans w.same d.kept;
      long = l ∙ w.long;
      regions_fit = w.regions_fit;
      space = w.space;
      within = w.within;
      onward = (omega (arith, w.onward.0, d.onward.0), d.onward.1);
    }

-- ---- the whole derivation
module _ {bytes : List ℕ} {regions : List Region} {ws : List ℕ} {scope : Scope} {levels top : ℕ} {claim : Claim} {at : ℕ} (y : Derivable ws regions scope levels top claim) where
  pub too_deep : levels ≡ 0 → Derives bytes regions ws ws scope levels top claim at (Err (DeepDerivation at))
  unfolding derive
  too_deep e = record { answer = λ policy g j. ap (λ n. derive bytes policy g n (claim_of ws claim) at) (sym e); kept = same_refl 0 (place top) ws; onward = tt }

  module _ (d : levels ≡ 0 → ⊥) {vs : List ℕ} where
    pub rule_refused : {f : Refusal} → Applies bytes regions ws vs scope top claim at (Err f) → Derives bytes regions ws vs scope levels top claim at (Err f)
    rule_refused a = record {
      answer = λ policy g j. stops _ (a.says policy g j) ∙ unroll bytes policy g levels (claim_of ws claim) at d;
      kept = a.kept;
      onward = tt;
    }

    module _ {p : Plan} {next : ℕ} (a : Applies bytes regions ws vs scope top claim at (Ok (p, next))) where
      -- all premises are left
      pub rule_applied : length vs ≡ length ws → {due : List NodeAtom} → due ≡ listed p → Running bytes regions vs vs scope levels p.top due next 0 next
      rule_applied l e = rw e (record {
        so_far = λ policy g j. refl;
        before = prepared_grown a.kept y.prepared a.standing.formed a.standing.above;
        same = same_refl 0 (place p.top) vs;
        long = refl;
        regions_fit = y.regions_fit;
        space = record { words = omega (arith, y.space.words); fits = omega (arith, y.space.fits, a.standing.few) };
        within = a.standing.within;
        onward = (omega arith, a.standing.onward.1);
      })

      -- what the premises come to is what the claim's derivation comes to
      whole : (policy : Policy) (g : Goal) → Judged regions ws scope policy g → derives bytes policy g (levels - 1) (premises_of vs p) next ≡ derive bytes policy g levels (claim_of ws claim) at
      whole policy g j = goes_on _ (a.says policy g j) refl ∙ unroll bytes policy g levels (claim_of ws claim) at d

      module _ {us : List ℕ} {due : List NodeAtom} (all : due ≡ listed p) {above : ℕ} (high : above ≡ p.top) {k reached : ℕ} (w : Running bytes regions vs us scope levels above due next k reached) where
        all_kept : {xs : List ℕ} → Same 0 (place above) vs xs → Same 0 (place top) ws xs
        all_kept s = same_trans a.kept (same_within {hi = place above} 0 (place top) (omega arith) (omega (arith, high, a.standing.above)) s)

        whole_due : (policy : Policy) (g : Goal) → Judged regions ws scope policy g → derives bytes policy g (levels - 1) (map (atom_in vs) due) next ≡ derive bytes policy g levels (claim_of ws claim) at
        whole_due policy g j = ap (λ l. derives bytes policy g (levels - 1) (map (atom_in vs) l) next) all ∙ whole policy g j

        -- no premise is due
        pub all_derived : length due ≤ k → Derives bytes regions ws us scope levels top claim at (Ok reached)
        unfolding derive_all
        all_derived h =
            let none : drop k due ≡ [] = drop_all k due h in
            record {
              answer = λ policy g j. ap (λ l. derives bytes policy g (levels - 1) (map (atom_in vs) l) reached) (sym none) ∙ w.so_far policy g (judged_kept a.kept y.prepared j) ∙ whole_due policy g j;
              kept = all_kept w.same;
              onward = (omega (arith, a.standing.onward.0, w.onward.0), w.onward.1);
            }

        -- a premise is refused
        pub premise_refused : (more : k < length due) (other : NodeAtom) {xs : List ℕ} {f : Refusal} → Derives bytes regions us xs scope (levels - 1) above (AtomClaim (get_or due k other)) reached (Err f)
            → Derives bytes regions ws xs scope levels top claim at (Err f)
        unfolding ◌>>=◌
        premise_refused more other q = record {
          answer = λ policy g j. followed w more other q policy g (judged_kept a.kept y.prepared j) ∙ whole_due policy g j;
          kept = all_kept (same_trans w.same q.kept);
          onward = tt;
        }
