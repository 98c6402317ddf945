-- Laws of a rule applied to a claim: one for each way out. Assumes nothing.
use mathlib.Core.Path.{◌≡◌, refl, sym, ap, ◌∙◌}
use mathlib.Core.List.{List, [], ◌∷◌}
use Prim.Native.Nat.{ℕ, zero, suc, ◌<◌, ◌≤◌}
use native.Mathlib.Omega.{arith}
use lib.ListN.{length, get_or}
use Rattle.std.specs.Prelude.{map}
use Rattle.model.specs.Result.{Result, Err, Ok, misfit, map_err}
use Rattle.model.specs.Atom.{Atom}
use Rattle.model.specs.Policy.{Policy}
use Rattle.model.specs.Goals.{Goal}
use Rattle.model.specs.Rule.{premises}
use Rattle.model.specs.Derivation.{rule_at}
use Rattle.model.specs.declared.Misfit.{Misfit}
use Rattle.model.specs.declared.Refusal.{Refusal}
use Rattle.model.specs.declared.Refusal.TheVariants.{UnfitRule}
use Rattle.model.specs.declared.Region.{Region}
use Rattle.model.proofs.Gives.{gives_value}
use Rattle.model.proofs.Lists.{Every, every_head, every_tail}
use Rattle.workspace.specs.Layout.{assumption_base, table_base, Same}
use Rattle.nodes.specs.Atoms.{atom_in}
use Rattle.nodes.specs.Table.{place, Formed}
use Rattle.nodes.specs.declared.Atom.{Atom as NodeAtom}
use Rattle.workspace.proofs.Frames.{same_trans, same_within}
use Rattle.nodes.proofs.Table.{formed_same}
use Rattle.term_reader.proofs.Substitution.{register_terms_same}
use Rattle.assumptions.specs.Area.{listed}
use Rattle.assumptions.proofs.Laws.{held_kept, listed_kept}
use Rattle.claims.specs.Parts.{claim_of, ClaimBelow}
use Rattle.model_laws.specs.Bounded.{AtomBounded}
use Rattle.claims.specs.Plan.{listed as premises_listed, premises_of, plan_of, asks, Planned}
use Rattle.claims.specs.Rules.{rule_in}
use Rattle.rule_reader.specs.Opening.{OpenedGrown}
use Rattle.derivation.specs.Deriving.{Judged, Prepared, Plannable, Derivable, applied, Applies}
use Rattle.claims.specs.declared.Claim.{Claim}
use Rattle.claims.specs.declared.Claim.TheVariants.{Atom as AtomClaim, Readable, Writable}
use Rattle.claims.specs.declared.Scope.{Scope}
use Rattle.claims.specs.declared.Plan.{Plan}
use Rattle.rule_reader.specs.declared.Opened.{Opened}
use Rattle.model_laws.proofs.Bounds.{premises_bounded, rule_read}
use Rattle.model_laws.proofs.Steps.{stops, goes_on}
use Rattle.claims.proofs.PlanLaws.{kept_term}
use Rattle.rule_reader.proofs.OpeningLaws.{register_below}

-- ---- words that keep all below the top
module _ {ws us : List ℕ} {top : ℕ} (s : Same 0 (place top) ws us) where
  module _ {scope : Scope} (y : Prepared ws top scope) where
    pub prepared_grown : {high : ℕ} → Formed us high → top ≤ high → Prepared us high scope
    prepared_grown {high} f h = record {
      formed = f;
      above = omega (arith, y.above);
      registers = register_terms_same top (λ v l. omega (arith, register_below v l, y.above)) s y.registers;
      most = y.most;
      assumed = held_kept (same_within assumption_base (place top) (omega arith) (omega arith) s) y.assumed high h;
      cleared = record { word = λ k l. s.word k (omega arith) (omega arith) ∙ y.cleared.word k l };
    }

    pub prepared_kept : length us ≡ length ws → Prepared us top scope
    prepared_kept e = prepared_grown (formed_same top (same_within table_base (place top) (omega arith) (omega arith) s) e y.formed) (omega arith)

    pub judged_kept : {regions : List Region} {policy : Policy} {g : Goal} → Judged regions ws scope policy g → Judged regions us scope policy g
    judged_kept j = record {
      regions_are = j.regions_are;
      assumptions = j.assumptions ∙ sym (listed_kept (same_within assumption_base (place top) (omega arith) (omega arith) s) y.assumed);
      variables = j.variables;
    }

pub claim_kept : {ws us : List ℕ} (top : ℕ) (claim : Claim) → Same 0 (place top) ws us → ClaimBelow top claim → claim_of us claim ≡ claim_of ws claim
claim_kept top (AtomClaim a) s h = rw (kept_term s h.0, kept_term s h.1)
claim_kept top (Readable t) s h = rw (kept_term s h)
claim_kept top (Writable t) s h = rw (kept_term s h)

claim_higher : (top high : ℕ) (claim : Claim) → top ≤ high → ClaimBelow top claim → ClaimBelow high claim
claim_higher top high (AtomClaim a) h b = (omega (arith, b.0), omega (arith, b.1))
claim_higher top high (Readable t) h b = omega arith
claim_higher top high (Writable t) h b = omega arith

-- what holds of every atom that premises say
every_listed : (P : Atom → Type 0) (us : List ℕ) (xs : List NodeAtom) → Every P (map (atom_in us) xs) → (k : ℕ) (d : NodeAtom) → k < length xs → P (atom_in us (get_or xs k d))
every_listed P us [] e k d h = absurd (omega arith)
every_listed P us (x ∷ xs) e zero d h = every_head e
every_listed P us (x ∷ xs) e (suc k) d h = every_listed P us xs (every_tail e) k d (omega arith)

-- a rule that does not fit, by what is answered for it
pub unfit : (m : Result (Unit {0}) Misfit) {f e : Refusal} → map_err (λ _. f) m ≡ Err e → (m ≡ Err misfit) × (e ≡ f)
unfolding map_err
unfit (Err x) h = (refl, cc)
unfit (Ok u) h = let z : ◌≡◌ {A = ℕ} 0 1 = cc in absurd (omega arith)

-- ---- what the callees ask
module _ {ws : List ℕ} {regions : List Region} {scope : Scope} {top : ℕ} {claim : Claim} (y : Derivable ws regions scope 1 top claim) where
  module _ (bytes : List ℕ) (at : ℕ) {us : List ℕ} where
    pub applies_refused : {r : Result Opened Refusal} {f : Refusal} → Err f ≡ rule_at bytes scope.variables at → OpenedGrown ws us top r → Applies bytes regions ws us scope top claim at (Err f)
    unfolding applied
    applies_refused a n = record { says = λ policy g j. stops _ (a ∙ ap (λ k. rule_at bytes k at) (sym j.variables)); kept = n.kept; standing = tt }

    module _ {o : Opened} (a : Ok (rule_in us o.rule, o.next) ≡ rule_at bytes scope.variables at) (n : OpenedGrown ws us top (Ok o)) where
      claim_same : claim_of us claim ≡ claim_of ws claim
      claim_same = claim_kept top claim n.kept y.below

      pub plannable : length us ≡ length ws → Plannable us regions scope o.rule claim o.top
      plannable e = record {
        prepared = prepared_grown n.kept y.prepared n.found.0.formed n.found.0.grows;
        regions_fit = y.regions_fit;
        space = record { words = omega (arith, y.space.words); fits = omega (arith, y.space.fits, n.found.0.few) };
        below = claim_higher top o.top claim n.found.0.grows y.below;
        bounded = rw claim_same y.bounded;
        held = n.found.1;
      }

      module _ {vs : List ℕ} {r : Result Plan Misfit} (q : Planned (Judged regions us scope) (asks (rule_in us o.rule) (claim_of us claim)) us vs o.top r) where
        -- the plan, for every policy and goal that these words say
        said : (policy : Policy) (g : Goal) → Judged regions ws scope policy g → plan_of vs r ≡ premises policy g (rule_in us o.rule) (claim_of ws claim)
        said policy g j = q.says policy g (judged_kept n.kept y.prepared j) ∙ ap (λ c. premises policy g (rule_in us o.rule) c) claim_same

        rule_is : (policy : Policy) (g : Goal) → Judged regions ws scope policy g → Ok (rule_in us o.rule, o.next) ≡ rule_at bytes g.variables at
        rule_is policy g j = a ∙ ap (λ k. rule_at bytes k at) (sym j.variables)

        all_kept : Same 0 (place top) ws vs
        all_kept = same_trans n.kept (same_within {hi = place o.top} 0 (place top) (omega arith) (omega (arith, n.found.0.grows)) q.grows.kept)

        pub applies_unfit : r ≡ Err misfit → Applies bytes regions ws vs scope top claim at (Err (UnfitRule at))
        unfolding applied map_err
        applies_unfit e = record {
          says = λ policy g j. goes_on _ (rule_is policy g j) (stops _ (ap (map_err (λ _. UnfitRule at)) (ap (plan_of vs) (sym e) ∙ said policy g j)));
          kept = all_kept;
          standing = tt;
        }

      module _ {vs : List ℕ} {p : Plan} (q : Planned (Judged regions us scope) (asks (rule_in us o.rule) (claim_of us claim)) us vs o.top (Ok p)) where
        -- some policy and goal that these words say
        policy₀ : Policy
        policy₀ = record { memory = 0; limit = 0; regions = regions; precondition = []; postcondition = [] }

        goal₀ : Goal
        goal₀ = record { assumptions = listed ws scope.assumptions; variables = scope.variables; instruction = 0; claim = claim_of ws claim }

        judged₀ : Judged regions ws scope policy₀ goal₀
        unfolding policy₀ goal₀
        judged₀ = record { regions_are = refl; assumptions = refl; variables = refl }

        premises_within : Every (AtomBounded scope.variables) (premises_of vs p)
        premises_within =
            gives_value (sym (said q policy₀ goal₀ judged₀))
            (premises_bounded scope.variables policy₀ goal₀ (rule_in us o.rule) (claim_of ws claim) (gives_value (sym a) (rule_read bytes scope.variables at)).0 y.bounded)

        pub applies_fits : Applies bytes regions ws vs scope top claim at (Ok (p, o.next))
        unfolding applied map_err
        applies_fits = record {
          says = λ policy g j. goes_on _ (rule_is q policy g j) (goes_on _ (ap (map_err (λ _. UnfitRule at)) (said q policy g j)) refl);
          kept = all_kept q;
          standing = record {
            formed = q.grows.formed;
            above = omega (arith, n.found.0.grows, q.grows.above);
            few = omega (arith, n.found.0.few, q.grows.few);
            within = λ k d h. record { below = q.below k d h; bounded = every_listed (AtomBounded scope.variables) vs (premises_listed p) premises_within k d h };
            onward = let s = gives_value (sym a) (rule_read bytes scope.variables at) in (s.1, s.2);
          };
        }
