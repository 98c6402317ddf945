-- The laws of check 12, one for each way out. Assumes nothing.
use mathlib.Core.Path.{◌≡◌, refl, sym, ap, ◌∙◌}
use mathlib.Core.Bool.{Bool, true, false, ◌||◌}
use mathlib.Core.List.{List, [], ◌∷◌}
use native.Mathlib.Decide.{ℕ_discrete}
use native.Mathlib.Numerals.{add-one}
use native.Mathlib.Omega.{arith}
use Prim.Native.Nat.{ℕ, ◌+◌, ◌≤◌, ◌<◌}
use lib.ListN.{length, get_or, drop, drop_of_length-le}
use lib.Dec.{eqb, ltb}
use lib.Seq.{drop-cons}
use borrow.Author.Tests.{ltb-true}
use Rattle.std.specs.Prelude.{Option, None, Some, is_some, IsTrue, IfOk, MatchOption}
use Rattle.std.specs.List.{position_from}
use Rattle.model.specs.Result.{Result, Err, Ok, ◌>>=◌, check}
use Rattle.model.specs.Term.{constant}
use Rattle.model.specs.Instruction.{target_of}
use Rattle.model.specs.Package.{read_code}
use Rattle.model.specs.Annotation.{Annotation}
use Rattle.model.specs.Routine.{annotated, target_allowed, targets_allowed}
use Rattle.model.specs.declared.Header.{Header}
use Rattle.model.specs.declared.Instruction.{Instruction}
use Rattle.model.specs.declared.Instruction.TheVariants.{Return}
use Rattle.model.specs.declared.Refusal.{Refusal}
use Rattle.model.specs.declared.Refusal.TheVariants.{Unannotated}
use Rattle.routine.specs.Code.{instruction_at}
use Rattle.routine.proofs.Facts.{code_at, code_length}
use Rattle.annotations.specs.declared.reading.Annotated.{Annotated}
use Rattle.annotations.specs.Annotations.{indexes_of, indexes_in}
use Rattle.targets.specs.Targets.{AheadAt, TargetAllowed, TargetMet, TargetsMet}
use Rattle.targets.proofs.Searches.{found_annotation, no_annotation}

-- the first of two holds, where the second is a search that found nothing
or_none : (b : Bool) {f : Option ℕ} → (b || is_some f) ≡ true → f ≡ None → b ≡ true
or_none true e n = refl
or_none false {f} e n = absurd (cc)

-- ---- one instruction's target
module _ (list : List Annotated) (index : ℕ) (x : Instruction) where
  no_jump : None ≡ target_of x → TargetAllowed list index x true
  unfolding target_allowed
  no_jump e = record { is = λ annotations l. rw (← e, target_allowed); ahead = λ _ t f. absurd (cc) }

  module _ (i : ℕ) (e : Some i ≡ target_of x) where
    -- what is listed is annotated
    listed_annotated : (f : Option ℕ) → f ≡ position_from (λ (a : Annotated). eqb a.index i) 0 list → (annotations : List Annotation) → indexes_in list ≡ indexes_of annotations → is_some f ≡ annotated annotations i
    unfolding annotated
    listed_annotated (Some k) ef annotations l = rw ((found_annotation i annotations list l (Some k) ef refl).is (record { index = 0; credit = constant 0; atoms = [] }), annotated)
    listed_annotated None ef annotations l = rw (no_annotation i annotations list l None ef refl, annotated)

    allowed : {r : Bool} → r ≡ (ltb index i || is_some (position_from (λ (a : Annotated). eqb a.index i) 0 list)) → TargetAllowed list index x r
    unfolding target_allowed
    allowed {r} is = record {
      is = λ annotations l. is ∙ ap (λ b. ltb index i || b) (listed_annotated _ refl annotations l) ∙ rw (← e, target_allowed);
      ahead = λ holds t f nowhere.
          let same : i ≡ t = cc in
          rw (← same) (ltb-true index i (or_none (ltb index i) (sym is ∙ holds) (rw same nowhere)));
    }

  -- its jump, if it is one, is allowed
  pub jumps_allowed : (P : ℕ → Type 0) (t : Option ℕ) (r : Bool) → t ≡ target_of x → MatchOption t (IsTrue r) P
      → ((i : ℕ) → P i → r ≡ (ltb index i || is_some (position_from (λ (a : Annotated). eqb a.index i) 0 list))) → TargetAllowed list index x r
  jumps_allowed P None r e h says = rw h (no_jump e)
  jumps_allowed P (Some i) r e h says = allowed i e (says i h)

-- ---- the instruction at an index
module _ (bytes : List ℕ) (h : Header) (list : List Annotated) (index : ℕ) (l : index < h.instructions) where
  module _ (x : Instruction) (e : Ok x ≡ instruction_at bytes h index) where
    -- it is that of the code that was read
    in_code : (code : List Instruction) → read_code bytes h ≡ Ok code → x ≡ get_or code index Return
    in_code code read = let q : Ok x ≡ Ok (get_or code index Return) = e ∙ code_at bytes h read index Return l in cc

    met : {t : Bool} → TargetAllowed list index x t → {r : Result (Unit {0}) Refusal} → r ≡ check t (Unannotated index) → IfOk r (λ _. AheadAt bytes h list index) → TargetMet bytes h list index r
    met T e a = record { is = λ code annotations read listed. e ∙ rw (← in_code code read, T.is annotations listed); ahead = a }

    pub target_passed : {t : Bool} → t ≡ true → TargetAllowed list index x t → TargetMet bytes h list index (Ok tt)
    unfolding check
    target_passed holds T = met T (rw holds) (λ y f. let same : x ≡ y = cc in rw (← same) (T.ahead holds))

    pub target_refused : {t : Bool} → t ≡ false → TargetAllowed list index x t → TargetMet bytes h list index (Err (Unannotated index))
    unfolding check
    target_refused fails T = met T (rw fails) tt

  -- the code that was read has no refusal
  pub no_refusal : (x : Refusal) → Err x ≡ instruction_at bytes h index → TargetMet bytes h list index (Err x)
  no_refusal x e = record { is = λ code annotations read listed. let q : Err x ≡ Ok (get_or code index Return) = e ∙ code_at bytes h read index Return l in absurd (cc); ahead = tt }

-- ---- all instructions
module _ (bytes : List ℕ) (h : Header) (list : List Annotated) where
  -- the first instructions passed
  pub record Targeting (index : ℕ) : Type 0 where
    pub rest : (code : List Instruction) (annotations : List Annotation) → read_code bytes h ≡ Ok code → indexes_in list ≡ indexes_of annotations → targets_allowed annotations 0 code ≡ targets_allowed annotations index (drop index code)
    pub ahead : (i : ℕ) → i < index → AheadAt bytes h list i

  pub none_targeted : Targeting 0
  none_targeted = record { rest = λ code annotations read listed. refl; ahead = λ i l. absurd (omega arith) }

  module _ (index : ℕ) (g : Targeting index) where
    module _ (l : index < h.instructions) (r : Result (Unit {0}) Refusal) (R : TargetMet bytes h list index r) where
      -- the check at the index comes next
      next_check : (code : List Instruction) (annotations : List Annotation) → read_code bytes h ≡ Ok code → indexes_in list ≡ indexes_of annotations → targets_allowed annotations 0 code ≡ (r >>= λ _. targets_allowed annotations (index + 1) (drop (index + 1) code))
      unfolding targets_allowed
      next_check code annotations read listed =
          let inside : index < length code = rw (code_length bytes h read) l in
          let first : drop index code ≡ get_or code index Return ∷ drop (index + 1) code = rw (add-one index) (drop-cons code index Return inside) in
          g.rest code annotations read listed ∙ rw (first, R.is code annotations read listed)

      pub targets_more : r ≡ Ok tt → Targeting (index + 1)
      unfolding ◌>>=◌
      targets_more e = record { rest = λ code annotations read listed. next_check code annotations read listed ∙ rw e; ahead = one_more }
        where
          one_more : (i : ℕ) → i < index + 1 → AheadAt bytes h list i
          one_more i b = go (ℕ_discrete i index)
            where
              go : Dec (i ≡ index) → AheadAt bytes h list i
              go (yes same) = rw same (rw e at R.ahead)
              go (no other) = g.ahead i (omega arith)

      pub targets_refused : (x : Refusal) → r ≡ Err x → TargetsMet bytes h list (Err x)
      unfolding ◌>>=◌
      targets_refused x e = record { is = λ code annotations read listed. sym (next_check code annotations read listed ∙ rw e); ahead = tt }

    pub targets_done : h.instructions ≤ index → TargetsMet bytes h list (Ok tt)
    unfolding targets_allowed
    targets_done l = record {
      is = λ code annotations read listed. let e : drop index code ≡ [] = drop_of_length-le code {i = index} (rw (code_length bytes h read) l) in sym (g.rest code annotations read listed ∙ rw e);
      ahead = λ i b. g.ahead i (omega arith);
    }
