-- What is derived holds, and where the checker answers 0 every goal of the trace holds and none is refused. Assumes nothing.
use Prim.Native.Nat.{ℕ, ◌≤◌, ◌+◌, zero, suc}
use mathlib.Core.List.{List, [], ◌∷◌}
use lib.ListN.{length}
use mathlib.Core.Path.{◌≡◌, refl}
use native.Mathlib.Omega.{arith}
use Rattle.model.specs.Annotation.{Annotation}
use Rattle.model.specs.Atom.{Atom, Holds, AllHold}
use Rattle.model.specs.Derivation.{most_levels, proof_field, rule_at, derive_all, derive}
use Rattle.model.specs.Expression.{expression_at}
use Rattle.model.specs.Field.{byte_at, half_at}
use Rattle.model.specs.Goals.{Claim, Goal, Trace, goals, append, annotation_block, annotation_blocks, atom, goal, finish, refuse}
use Rattle.model.specs.Policy.{Policy}
use Rattle.model.specs.Refusal.{number_of}
use Rattle.model.specs.Result.{Result, Err, Ok, ◌>>=◌}
use Rattle.model.specs.Routine.{Routine}
use Rattle.model.specs.Rule.{Rule, Format, plain, with_index, with_term, with_region}
use Rattle.model.specs.Verdict.{answered, judge}
use Rattle.model.specs.declared.Refusal.{Refusal}
use Rattle.model.specs.declared.Refusal.TheVariants.{SmallWorkspace, WrongStart, PolicyLength, PolicySize, BadRegion, PolicyExpression, BadHeader, BadInstruction, BadTarget, BadAnnotation, AnnotationBytes, Unannotated, PastLast, LargeTerm, ProofExhausted, UnfitRule, DeepDerivation, BadArgument, ProofLeft, LongBlock}
use Rattle.model.specs.declared.Verdict.{Verdict}
use Rattle.model.proofs.Gives.{Gives, gives_map, gives_element, gives_as, gives, gives_then, gives_next, gives_value, stops}
use Rattle.model.proofs.Lists.{empty, Every, ◌&◌}
use Rattle.model.proofs.Rules.{ClaimHolds, FormatSound, rules_sound, RegionsFit, SoundRule}
use Rattle.model.proofs.Terms.{WordEnv}

-- derivations of all atoms, where each derivation is right
all_derived : (bytes : List ℕ) (env : ℕ → ℕ) (one : Claim → ℕ → Result ℕ Refusal)
    → ((a : Atom) (p : ℕ) → Gives (λ _. Holds env a) (one (atom a) p))
    → (atoms : List Atom) (p : ℕ) → Gives (λ _. AllHold env atoms) (derive_all bytes one atoms p)
unfolding derive_all AllHold
all_derived bytes env one k [] p = gives tt
all_derived bytes env one k (a ∷ rest) p =
    gives_then (k a p) λ q h. gives_map (λ _ hs. (h, hs)) (all_derived bytes env one k rest q)

module _ (bytes : List ℕ) (policy : Policy) (fit : RegionsFit policy) (g : Goal)
    (env : ℕ → ℕ) (words : WordEnv env) (assumed : AllHold env g.assumptions) where
  -- a rule is sound with each argument that is read
  argument_read : (p : ℕ) (format : Format) → FormatSound policy fit g env words assumed format
      → Gives (λ (r : Rule × ℕ). SoundRule policy fit g env words assumed r.0) (elim format as (λ _. Result (Rule × ℕ) Refusal) [
        | plain rule ↦ Ok (rule, p + 1)
        | with_index rule ↦ proof_field bytes (half_at bytes (length bytes) (p + 1)) >>= λ index. Ok (rule index, p + 3)
        | with_term rule ↦ proof_field bytes (expression_at bytes (length bytes) g.variables (p + 1)) >>= λ (m, q). Ok (rule m, q)
        | with_region rule ↦ proof_field bytes (byte_at bytes (length bytes) (p + 1)) >>= λ j. Ok (rule j, p + 2)
      ])
  argument_read p (plain rule) sound = gives sound
  argument_read p (with_index rule) sound = gives_next λ index _. gives (sound index)
  argument_read p (with_term rule) sound = gives_next λ r _. gives (sound r.0)
  argument_read p (with_region rule) sound = gives_next λ j _. gives (sound j)

  -- a rule that is read is sound
  rule_read : (p : ℕ) → Gives (λ r. SoundRule policy fit g env words assumed r.0) (rule_at bytes g.variables p)
  unfolding rule_at
  rule_read p =
      gives_next λ number _.
      gives_then (gives_element number (UnfitRule p) (rules_sound policy fit g env words assumed)) λ format sound.
      argument_read p format sound

  derived_holds : (levels : ℕ) (claim : Claim) (p : ℕ) → Gives (λ _. ClaimHolds policy env claim) (derive bytes policy g levels claim p)
  unfolding derive ClaimHolds
  derived_holds zero claim p = stops
  derived_holds (suc levels) claim p =
      gives_then (rule_read p) λ r sound.
      gives_then (gives_as _ (sound claim)) λ atoms enough.
      gives_map (λ _ h. enough h) (all_derived bytes env _ (λ a q. derived_holds levels (atom a) q) atoms r.1)

pub derive_sound : (bytes : List ℕ)
    → (policy : Policy)
    → RegionsFit policy
    → (g : Goal) (levels : ℕ) (claim : Claim) (p q : ℕ)
    → derive bytes policy g levels claim p ≡ Ok q
    → (env : ℕ → ℕ)
    → WordEnv env
    → AllHold env g.assumptions
    → ClaimHolds policy env claim
derive_sound bytes policy fit g levels claim p q e env words assumed =
    gives_value e (derived_holds bytes policy fit g env words assumed levels claim p)

-- ---- traces

module _ (policy : Policy) where
  -- the goal's claim is true wherever its assumptions are
  abbrev pub GoalHolds : Goal → Type 0
  GoalHolds g = (env : ℕ → ℕ) → WordEnv env → AllHold env g.assumptions → ClaimHolds policy env g.claim

  -- every goal holds, and no refusal comes
  unfoldable pub Sound : Trace → Type 0
  Sound (goal g t) = GoalHolds g × Sound t
  Sound finish = Unit
  Sound (refuse r) = ⊥

  pub sound_goals : (gs : List Goal) (t : Trace) → Sound (goals gs t) → Every GoalHolds gs
  unfolding goals Sound
  sound_goals [] t h = empty
  sound_goals (g ∷ gs) t h = h.0 & sound_goals gs t h.1

  pub sound_rest : (gs : List Goal) (t : Trace) → Sound (goals gs t) → Sound t
  unfolding goals Sound
  sound_rest [] t h = h
  sound_rest (g ∷ gs) t h = sound_rest gs t h.1

  pub sound_first : (t u : Trace) → Sound (append t u) → Sound t
  unfolding append Sound
  sound_first (goal g t) u h = (h.0, sound_first t u h.1)
  sound_first finish u h = tt
  sound_first (refuse r) u h = h

  pub sound_second : (t u : Trace) → Sound (append t u) → Sound u
  unfolding append Sound
  sound_second (goal g t) u h = sound_second t u h.1
  sound_second finish u h = h
  sound_second (refuse r) u h = absurd h

  -- the blocks of the annotations
  pub sound_blocks : (routine : Routine) (annotations : List Annotation) → Sound (annotation_blocks policy routine annotations)
      → Every (λ (a : Annotation). Sound (annotation_block policy routine a)) annotations
  unfolding annotation_blocks
  sound_blocks routine [] h = empty
  sound_blocks routine (a ∷ rest) h =
      let block = annotation_block policy routine a in
      let blocks = annotation_blocks policy routine rest in
      sound_first block blocks h & sound_blocks routine rest (sound_second block blocks h)

-- ---- the answer 0

-- "0 is accepted": no refusal has the number 0
number_positive : (r : Refusal) → 1 ≤ number_of r
unfolding number_of
number_positive SmallWorkspace = omega arith
number_positive WrongStart = omega arith
number_positive (PolicyLength p) = omega arith
number_positive (PolicySize p) = omega arith
number_positive (BadRegion p) = omega arith
number_positive (PolicyExpression p) = omega arith
number_positive (BadHeader p) = omega arith
number_positive (BadInstruction p) = omega arith
number_positive (BadTarget p) = omega arith
number_positive (BadAnnotation p) = omega arith
number_positive (AnnotationBytes p) = omega arith
number_positive (Unannotated p) = omega arith
number_positive (PastLast p) = omega arith
number_positive (LargeTerm p) = omega arith
number_positive (ProofExhausted p) = omega arith
number_positive (UnfitRule p) = omega arith
number_positive (DeepDerivation p) = omega arith
number_positive (BadArgument p) = omega arith
number_positive (ProofLeft p) = omega arith
number_positive (LongBlock p) = omega arith

-- an answer 0 comes of a value
pub answered_value : {A : Type 0} (r : Result A Refusal) (derived : ℕ) (k : A → Verdict) → (answered r derived k).number ≡ 0
    → (a : A) × (r ≡ Ok a) × ((k a).number ≡ 0)
unfolding answered
answered_value (Err r) derived k e = absurd (omega (arith, number_positive r))
answered_value (Ok a) derived k e = (a, refl, e)

pub judge_sound : (bytes : List ℕ) (policy : Policy) → RegionsFit policy → (t : Trace) (p derived : ℕ)
    → (judge bytes policy t p derived).number ≡ 0 → Sound policy t
unfolding judge Sound
judge_sound bytes policy fit (goal g rest) p derived e =
    let (q, d, later) = answered_value (derive bytes policy g most_levels g.claim p) derived (λ q. judge bytes policy rest q (derived + 1)) e in
    (derive_sound bytes policy fit g most_levels g.claim p q d, judge_sound bytes policy fit rest q (derived + 1) later)
judge_sound bytes policy fit finish p derived e = tt
judge_sound bytes policy fit (refuse r) p derived e = absurd (omega (arith, number_positive r))
