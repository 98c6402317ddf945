-- Each rule is sound: where its premises hold under an environment, so does the claim. Assumes nothing.
use Prim.Native.Nat.{ℕ, ◌≤◌, ◌<◌, ◌^◌, ◌+◌}
use mathlib.Core.Bool.{Bool, true, not, ◌&&◌}
use mathlib.Core.List.{List, [], ◌∷◌}
use mathlib.Core.Option.{some}
use mathlib.Core.Path.{◌≡◌, ap, ◌∙◌, sym, subst, ap₂}
use native.Mathlib.Omega.{arith}
use lib.Dec.{leb, eqb}
use lib.ListN.{get_elem?}
use borrow.Author.Tests.{leb-true, ltb-true, lt-ltb, le-leb, eqb-true, eqb-false, not-true}
use Rattle.model.specs.Atom.{Atom, less, Compares, holds, Holds, AllHold, eq_atom}
use Rattle.model.specs.Goals.{Claim, Goal, atom, readable, writable}
use Rattle.model.specs.Policy.{Policy, may_read, covers, readable_word, writable_word, writable_region, region_fits}
use Rattle.model.specs.Rights.{Fitting, WhollyWritable}
use Rattle.model.specs.Result.{Fit, ◌>>=◌, check, misfit, Ok}
use Rattle.model.specs.Rule.{Rule, Format, rules, atom_of, sides_of, readable_of, writable_of, pair_of, sum_of, difference_of, mask_of, shift_of, equal_pairs, congruent, region_premises, premises, from_assumption, equal_reflexive, at_most_reflexive, evaluation, equal_symmetric, equal_transitive, at_most_transitive, less_at_most, at_most_less, at_most_of_less, at_most_of_equal, congruence, linear, zero_at_most, sum_monotone, difference_monotone, successor_at_most, below_successor, sum_no_overflow, less_of_at_most, unequal_of_less, unequal_symmetric, in_readable_region, in_writable_region, contradiction, mask_at_most, shift_at_most, shift_bounded, linear_unequal, plain, with_index, with_term, with_region}
use Rattle.model.specs.Term.{Term, eval, closed, eq_term, constant, variable, sum, difference, mask, shift}
use Rattle.model.specs.Word.{add_w, sub_w, mask_w, shift_w}
use Rattle.model.specs.declared.Comparison.{Comparison}
use Rattle.model.specs.declared.Comparison.TheVariants.{Equal, Unequal, Less, AtMost}
use Rattle.model.specs.declared.Region.{Region}
use Rattle.model.proofs.Gives.{Gives, gives_map, gives_check, gives_element, gives_found, gives, gives_then, stops}
use Rattle.model.proofs.LinearForm.{difference_sound}
use Rattle.model.proofs.Lists.{empty, Every, ◌&◌, every_at}
use Rattle.model.proofs.Rights.{given_some, wholly_writable}
use Rattle.model.proofs.Terms.{same_atom, same_term, and_both, and_right, same_kind, eval_word, WordEnv, closed_holds, with_tag}
use Rattle.model.proofs.Words.{masked_at_most, shifted_at_most, shifted_monotone}

-- what a claim says under an environment
unfoldable pub ClaimHolds : Policy → (ℕ → ℕ) → Claim → Type 0
ClaimHolds policy env (atom a) = Holds env a
ClaimHolds policy env (readable t) = readable_word policy (eval env t) ≡ true
ClaimHolds policy env (writable t) = writable_word policy (eval env t) ≡ true

-- every region lies in the memory, and its bounds are words
pub record RegionsFit (policy : Policy) : Type 0 where
  pub memory_word : policy.memory < 2 ^ 32
  pub each : Every (λ r. region_fits policy.memory r ≡ true) policy.regions

-- ---- claims: what is enough for a claim, by its parts

module _ (policy : Policy) (env : ℕ → ℕ) where
  pub atom_of_lem : (c : Claim) → Gives (λ a. Holds env a → ClaimHolds policy env c) (atom_of c)
  unfolding atom_of ClaimHolds
  atom_of_lem (atom a) = gives (λ h. h)
  atom_of_lem (readable t) = stops
  atom_of_lem (writable t) = stops

  pub readable_of_lem : (c : Claim) → Gives (λ t. readable_word policy (eval env t) ≡ true → ClaimHolds policy env c) (readable_of c)
  unfolding readable_of ClaimHolds
  readable_of_lem (atom a) = stops
  readable_of_lem (readable t) = gives (λ h. h)
  readable_of_lem (writable t) = stops

  pub writable_of_lem : (c : Claim) → Gives (λ t. writable_word policy (eval env t) ≡ true → ClaimHolds policy env c) (writable_of c)
  unfolding writable_of ClaimHolds
  writable_of_lem (atom a) = stops
  writable_of_lem (readable t) = stops
  writable_of_lem (writable t) = gives (λ h. h)

  pub sides : (kind : Comparison) (c : Claim) → Gives (λ s. Compares kind (eval env s.0) (eval env s.1) → ClaimHolds policy env c) (sides_of kind c)
  unfolding sides_of Holds
  sides kind c =
      gives_then (atom_of_lem c) λ a enough.
      gives_then (gives_check _ _) λ _ e.
      gives (λ h. enough (subst (λ k. Compares k (eval env a.left) (eval env a.right)) (sym (same_kind a.kind kind e)) h))

-- ---- terms: their values, by their operands

module _ (env : ℕ → ℕ) where
  pub sum_of_lem : (t : Term) → Gives (λ s. eval env t ≡ add_w (eval env s.0) (eval env s.1)) (sum_of t)
  unfolding sum_of pair_of eval
  sum_of_lem t = gives_then (gives_check _ _) λ _ e. gives (ap (eval env) (sym (with_tag 2 t e)))

  pub difference_of_lem : (t : Term) → Gives (λ s. eval env t ≡ sub_w (eval env s.0) (eval env s.1)) (difference_of t)
  unfolding difference_of pair_of eval
  difference_of_lem t = gives_then (gives_check _ _) λ _ e. gives (ap (eval env) (sym (with_tag 3 t e)))

  pub mask_of_lem : (t : Term) → Gives (λ s. eval env t ≡ mask_w (eval env s.0) (eval env s.1)) (mask_of t)
  unfolding mask_of pair_of eval
  mask_of_lem t = gives_then (gives_check _ _) λ _ e. gives (ap (eval env) (sym (with_tag 4 t e)))

  pub shift_of_lem : (t : Term) → Gives (λ s. eval env t ≡ shift_w s.0 (eval env s.1)) (shift_of t)
  unfolding shift_of eval
  shift_of_lem t = gives_then (gives_check _ _) λ _ e. gives (ap (eval env) (sym (with_tag 5 t e)))

  -- two terms of one operation, whose operands are equal
  equal_pairs_lem : (operation : ℕ → ℕ → ℕ) (a b u : Term) {operands : Fit (Term × Term)}
      → Gives (λ s. eval env u ≡ operation (eval env s.0) (eval env s.1)) operands
      → Gives (λ atoms. AllHold env atoms → operation (eval env a) (eval env b) ≡ eval env u) (equal_pairs a b operands)
  unfolding equal_pairs AllHold Holds Compares
  equal_pairs_lem operation a b u h = gives_then h λ _ e. gives (λ p. ap₂ operation p.0 p.1.0 ∙ sym e)

  pub congruent_of : (l r : Term) → Gives (λ atoms. AllHold env atoms → eval env l ≡ eval env r) (congruent l r)
  unfolding congruent eval AllHold Holds Compares
  congruent_of (constant c) r = stops
  congruent_of (variable x) r = stops
  congruent_of (sum a b) r = equal_pairs_lem add_w a b r (sum_of_lem r)
  congruent_of (difference a b) r = equal_pairs_lem sub_w a b r (difference_of_lem r)
  congruent_of (mask a b) r = equal_pairs_lem mask_w a b r (mask_of_lem r)
  congruent_of (shift count a) r =
      gives_then (shift_of_lem r) λ o h.
      gives_then (gives_check (eqb count o.0) misfit) λ _ e. gives (λ p. ap₂ shift_w (eqb-true count o.0 e) p.0 ∙ sym h)

-- ---- regions

-- a word of region j, which passes a test
pub record Within (policy : Policy) (test : Region → Bool) (j w : ℕ) : Type 0 where
  pub region : Region
  pub listed : get_elem? policy.regions j ≡ some region
  pub passes : test region ≡ true
  pub covered : covers region w ≡ true

module _ {policy : Policy} (fit : RegionsFit policy) where
  fitting : Fitting policy
  unfolding Fitting
  fitting j r e = every_at j fit.each e

  region_inside : (j : ℕ) (r : Region) → get_elem? policy.regions j ≡ some r → r.base + r.size ≤ policy.memory
  unfolding Fitting region_fits
  region_inside j r e = leb-true _ _ (and_right (leb 1 r.rights && leb 1 r.size) _ (fitting j r e))

  readable_within : {j : ℕ} {w : ℕ} → Within policy may_read j w → readable_word policy w ≡ true
  unfolding readable_word
  readable_within {j} {w} h =
      let below = ltb-true w (h.region.base + h.region.size) (and_right (leb h.region.base w) _ h.covered) in
      and_both _ _ (lt-ltb w policy.memory (omega (arith, region_inside j h.region h.listed)))
      (given_some may_read w policy.regions j h.region h.listed h.covered h.passes)

  writable_within : {j : ℕ} {w : ℕ} → Within policy (writable_region policy.regions) j w → writable_word policy w ≡ true
  unfolding WhollyWritable
  writable_within {j} {w} h = (wholly_writable policy fitting j h.region h.listed).0 h.passes w h.covered

-- ---- the rules

module _ (policy : Policy) (fit : RegionsFit policy) (g : Goal) (env : ℕ → ℕ) (words : WordEnv env) (assumed : AllHold env g.assumptions) where
  -- where the premises hold, the claim holds
  abbrev pub SoundRule : Rule → Type 0
  SoundRule rule = (c : Claim) → Gives (λ atoms. AllHold env atoms → ClaimHolds policy env c) (premises policy g rule c)

  -- a rule over the two sides of a claim: premises that give the comparison of the sides are enough
  by_sides : (kind : Comparison) (c : Claim) (atoms : Term × Term → List Atom)
      → ((s : Term × Term) → AllHold env (atoms s) → Compares kind (eval env s.0) (eval env s.1))
      → Gives (λ atoms'. AllHold env atoms' → ClaimHolds policy env c) (sides_of kind c >>= λ s. Ok (atoms s))
  by_sides kind c atoms k = gives_then (sides policy env kind c) λ s enough. gives (λ p. enough (k s p))

  -- a test that two terms are the same, as a step
  same : (s t : Term) → Gives (λ _. eval env s ≡ eval env t) (check (eq_term s t) misfit)
  same s t = gives_map (λ _ h. ap (eval env) (same_term s t h)) (gives_check (eq_term s t) misfit)

  -- ---- rules 0 to 3

  holds_every : (atoms : List Atom) → AllHold env atoms → Every (Holds env) atoms
  unfolding AllHold
  holds_every [] h = empty
  holds_every (a ∷ rest) h = h.0 & holds_every rest h.1

  assumption_sound : (index : ℕ) → SoundRule (from_assumption index)
  unfolding premises
  assumption_sound index c =
      gives_then (atom_of_lem policy env c) λ a enough.
      gives_then (gives_element index misfit (holds_every g.assumptions assumed)) λ b h.
      gives_then (gives_check (eq_atom a b) misfit) λ _ e. gives (λ _. enough (subst (Holds env) (sym (same_atom a b e)) h))

  equal_reflexive_sound : SoundRule equal_reflexive
  unfolding premises Compares
  equal_reflexive_sound c =
      gives_then (sides policy env Equal c) λ s enough. gives_then (same s.0 s.1) λ _ e. gives (λ _. enough e)

  at_most_reflexive_sound : SoundRule at_most_reflexive
  unfolding premises Compares
  at_most_reflexive_sound c =
      gives_then (sides policy env AtMost c) λ s enough. gives_then (same s.0 s.1) λ _ e. gives (λ _. enough (omega arith))

  evaluation_sound : SoundRule evaluation
  unfolding premises
  evaluation_sound c =
      gives_then (atom_of_lem policy env c) λ a enough.
      gives_then (gives_check (closed a.left && closed a.right && holds (λ v. 0) a) misfit) λ _ h.
      gives (λ _. enough (closed_holds env a h))

  -- ---- rules 4 to 10: each follows from its premises by linear arithmetic

  equal_symmetric_sound : SoundRule equal_symmetric
  unfolding premises Compares AllHold Holds
  equal_symmetric_sound c = by_sides Equal c _ λ s p. omega arith

  equal_transitive_sound : (m : Term) → SoundRule (equal_transitive m)
  unfolding premises Compares AllHold Holds
  equal_transitive_sound m c = by_sides Equal c _ λ s p. omega arith

  at_most_transitive_sound : (m : Term) → SoundRule (at_most_transitive m)
  unfolding premises Compares AllHold Holds
  at_most_transitive_sound m c = by_sides AtMost c _ λ s p. omega arith

  less_at_most_sound : (m : Term) → SoundRule (less_at_most m)
  unfolding premises Compares AllHold Holds
  less_at_most_sound m c = by_sides Less c _ λ s p. omega arith

  at_most_less_sound : (m : Term) → SoundRule (at_most_less m)
  unfolding premises Compares AllHold Holds
  at_most_less_sound m c = by_sides Less c _ λ s p. omega arith

  at_most_of_less_sound : SoundRule at_most_of_less
  unfolding premises Compares AllHold Holds
  at_most_of_less_sound c = by_sides AtMost c _ λ s p. omega arith

  at_most_of_equal_sound : SoundRule at_most_of_equal
  unfolding premises Compares AllHold Holds
  at_most_of_equal_sound c = by_sides AtMost c _ λ s p. omega arith

  -- ---- rules 11 to 13

  congruence_sound : SoundRule congruence
  unfolding premises Compares
  congruence_sound c =
      gives_then (sides policy env Equal c) λ s enough. gives_map (λ _ k p. enough (k p)) (congruent_of env s.0 s.1)

  linear_sound : SoundRule linear
  unfolding premises Compares add_w
  linear_sound c =
      gives_then (sides policy env Equal c) λ s enough.
      gives_then (difference_sound env words s.0 s.1) λ d h.
      gives_then (gives_check (eqb d 0) misfit) λ _ e.
      gives (λ _. enough (omega (arith, h.0, eqb-true d 0 e, eval_word env s.1 words)))

  zero_at_most_sound : SoundRule zero_at_most
  unfolding premises Compares eval
  zero_at_most_sound c =
      gives_then (sides policy env AtMost c) λ s enough. gives_then (same s.0 (constant 0)) λ _ e. gives (λ _. enough (omega arith))

  -- ---- rules 14 to 18: linear arithmetic with the wrap of `add_w` and `sub_w`

  sum_monotone_sound : SoundRule sum_monotone
  unfolding premises Compares AllHold Holds eval add_w
  sum_monotone_sound c =
      gives_then (sides policy env AtMost c) λ s enough.
      gives_then (sum_of_lem env s.0) λ l u.
      gives_then (sum_of_lem env s.1) λ r v.
      gives (λ p. enough (omega (arith, u, v, eval_word env r.0 words, eval_word env r.1 words)))

  difference_monotone_sound : SoundRule difference_monotone
  unfolding premises Compares AllHold Holds sub_w
  difference_monotone_sound c =
      gives_then (sides policy env AtMost c) λ s enough.
      gives_then (difference_of_lem env s.0) λ l u.
      gives_then (difference_of_lem env s.1) λ r v.
      gives (λ p. enough (omega (arith, u, v, eval_word env r.0 words, eval_word env l.1 words)))

  successor_at_most_sound : SoundRule successor_at_most
  unfolding premises Compares AllHold Holds eval add_w
  successor_at_most_sound c =
      gives_then (sides policy env AtMost c) λ s enough.
      gives_then (sum_of_lem env s.0) λ l u.
      gives_then (same l.1 _) λ _ e.
      gives (λ p. enough (omega (arith, u, e)))

  below_successor_sound : SoundRule below_successor
  unfolding premises Compares AllHold Holds eval add_w
  below_successor_sound c = by_sides AtMost c _ λ s p. omega arith

  sum_no_overflow_sound : SoundRule sum_no_overflow
  unfolding premises Compares AllHold Holds eval add_w sub_w
  sum_no_overflow_sound c =
      gives_then (sides policy env AtMost c) λ s enough.
      gives_then (sum_of_lem env s.1) λ r v.
      gives_then (same s.0 r.0) λ _ e.
      gives (λ p. enough (omega (arith, v, e, eval_word env r.0 words, eval_word env r.1 words)))

  -- ---- rules 19 to 21: as 4 to 10

  less_of_at_most_sound : SoundRule less_of_at_most
  unfolding premises Compares AllHold Holds
  less_of_at_most_sound c = by_sides Less c _ λ s p. omega arith

  unequal_of_less_sound : SoundRule unequal_of_less
  unfolding premises Compares AllHold Holds
  unequal_of_less_sound c = by_sides Unequal c _ λ s p. omega arith

  unequal_symmetric_sound : SoundRule unequal_symmetric
  unfolding premises Compares AllHold Holds
  unequal_symmetric_sound c = by_sides Unequal c _ λ s p. omega arith

  -- ---- rules 22 to 24

  -- a word between the bounds of a region that passes the rule's test
  region_sound : (test : Region → Bool) (j : ℕ) (t : Term)
      → Gives (λ atoms. AllHold env atoms → Within policy test j (eval env t)) (region_premises policy test j t)
  unfolding region_premises AllHold Holds Compares eval
  region_sound test j t =
      gives_then (gives_found (get_elem? policy.regions j) misfit) λ r l.
      gives_then (gives_check (test r) misfit) λ _ e.
      let inside = region_inside fit j r l in
      gives λ p.
      record {
        region = r;
        listed = l;
        passes = e;
        covered = and_both _ _ (le-leb r.base (eval env t) (omega arith)) (lt-ltb (eval env t) (r.base + r.size) (omega arith));
      }

  in_readable_region_sound : (j : ℕ) → SoundRule (in_readable_region j)
  unfolding premises
  in_readable_region_sound j c =
      gives_then (readable_of_lem policy env c) λ t enough. gives_map (λ _ k p. enough (readable_within fit (k p))) (region_sound may_read j t)

  in_writable_region_sound : (j : ℕ) → SoundRule (in_writable_region j)
  unfolding premises
  in_writable_region_sound j c =
      gives_then (writable_of_lem policy env c) λ t enough. gives_map (λ _ k p. enough (writable_within fit (k p))) (region_sound (writable_region policy.regions) j t)

  contradiction_sound : (m : Term) → SoundRule (contradiction m)
  unfolding premises AllHold Holds Compares
  contradiction_sound m c = gives {a = less m m ∷ []} (λ p. absurd (omega arith))

  -- ---- rules 25 to 28

  mask_at_most_sound : SoundRule mask_at_most
  unfolding premises Compares
  mask_at_most_sound c =
      gives_then (sides policy env AtMost c) λ s enough.
      gives_then (mask_of_lem env s.0) λ l u.
      gives_then (same l.1 s.1) λ _ e.
      gives (λ _. enough (omega (arith, u, e, masked_at_most (eval env l.0) (eval env l.1))))

  shift_at_most_sound : SoundRule shift_at_most
  unfolding premises Compares
  shift_at_most_sound c =
      gives_then (sides policy env AtMost c) λ s enough.
      gives_then (shift_of_lem env s.0) λ l u.
      gives_then (same l.1 s.1) λ _ e.
      gives (λ _. enough (omega (arith, u, e, shifted_at_most l.0 (eval env l.1))))

  shift_bounded_sound : SoundRule shift_bounded
  unfolding premises Compares eval
  shift_bounded_sound c =
      gives_then (sides policy env AtMost c) λ s enough.
      gives_then (shift_of_lem env s.0) λ l u.
      gives_then (same s.1 (constant (shift_w l.0 4294967295))) λ _ e.
      let most = shifted_monotone l.0 (eval env l.1) 4294967295 (omega (arith, eval_word env l.1 words)) in
      gives (λ _. enough (omega (arith, u, e, most, shifted_at_most l.0 4294967295)))

  linear_unequal_sound : SoundRule linear_unequal
  unfolding premises Compares add_w
  linear_unequal_sound c =
      gives_then (sides policy env Unequal c) λ s enough.
      gives_then (difference_sound env words s.0 s.1) λ d h.
      gives_then (gives_check (not (eqb d 0)) misfit) λ _ e.
      let other = eqb-false d 0 (not-true (eqb d 0) e) in
      gives (λ _. enough (omega (arith, h.0, h.1, other, eval_word env s.1 words)))

  -- ---- the table of rules

  abbrev pub FormatSound : Format → Type 0
  FormatSound (plain rule) = SoundRule rule
  FormatSound (with_index rule) = (index : ℕ) → SoundRule (rule index)
  FormatSound (with_term rule) = (m : Term) → SoundRule (rule m)
  FormatSound (with_region rule) = (j : ℕ) → SoundRule (rule j)

  pub rules_sound : Every FormatSound rules
  rules_sound =
      assumption_sound
      & equal_reflexive_sound
      & at_most_reflexive_sound
      & evaluation_sound
      & equal_symmetric_sound
      & equal_transitive_sound
      & at_most_transitive_sound
      & less_at_most_sound
      & at_most_less_sound
      & at_most_of_less_sound
      & at_most_of_equal_sound
      & congruence_sound
      & linear_sound
      & zero_at_most_sound
      & sum_monotone_sound
      & difference_monotone_sound
      & successor_at_most_sound
      & below_successor_sound
      & sum_no_overflow_sound
      & less_of_at_most_sound
      & unequal_of_less_sound
      & unequal_symmetric_sound
      & in_readable_region_sound
      & in_writable_region_sound
      & contradiction_sound
      & mask_at_most_sound
      & shift_at_most_sound
      & shift_bounded_sound
      & linear_unequal_sound
      & empty
