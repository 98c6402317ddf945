-- What a setting says of the policy, the instructions and the annotations. Assumes nothing.
use mathlib.Core.Path.{◌≡◌, refl, sym, ap, ◌∙◌}
use mathlib.Core.Option.{none, some}
use mathlib.Core.List.{List, []}
use Prim.Native.Nat.{ℕ, ◌<◌}
use lib.ListN.{length, get_or}
use lib.Dec.{eqb}
use Rattle.std.specs.Prelude.{Option, None, Some}
use Rattle.std.specs.List.{position_from}
use mathlib.Core.Bool.{true}
use Rattle.std.specs.Prelude.{is_ok}
use Rattle.model.specs.Result.{Result, Ok, Err}
use Rattle.model.specs.declared.Refusal.{Refusal}
use Rattle.model.specs.Term.{constant}
use Rattle.model.specs.Policy.{Policy}
use Rattle.model.specs.Expression.{register_count, atoms_at}
use Rattle.model.specs.Annotation.{Annotation, annotation_at, annotation_from}
use Rattle.model.specs.Routine.{Routine}
use Rattle.model.specs.declared.Header.{Header}
use Rattle.routine.proofs.Facts.{code_length}
use Rattle.annotations.specs.declared.reading.Annotated.{Annotated}
use Rattle.annotations.specs.Annotations.{annotation_at_place, Placed, annotations_at}
use Rattle.targets.proofs.Searches.{found_annotation, no_annotation}
use Rattle.policy.specs.declared.Condition.{Condition}
use Rattle.policy.specs.Conditions.{atoms_of, condition_at, atoms_in}
use Rattle.policy.specs.Policy.{policy_of}
use Rattle.setting.specs.declared.Setting.{Setting}
use Rattle.setting.specs.Fixed.{Ends, AnnotationsFit}
use Rattle.setting.specs.Setting.{TablesStand, Stands}
use Rattle.expressions.proofs.ReadingLaws.{read_next}
use Rattle.std.proofs.lemmas.List.{length-map, get_or-map}

-- ---- the annotations
module _ {bytes : List ℕ} {h : Header} {list : List Annotated} (t : AnnotationsFit bytes h list) where
  pub annotations_long : length (annotations_at bytes h list) ≡ length list
  annotations_long = length-map list (λ (x : Annotated). annotation_at_place bytes h x.at)

  pub annotation_in : (k : ℕ) (other : Annotation) (there : Annotated) → k < length list → get_or (annotations_at bytes h list) k other ≡ annotation_at_place bytes h (get_or list k there).at
  annotation_in k other there l = get_or-map (λ (x : Annotated). annotation_at_place bytes h x.at) list k there other l

  pub index_in : (k : ℕ) (there : Annotated) → k < length list → (get_or list k there).index ≡ (annotation_at_place bytes h (get_or list k there).at).index
  index_in k there l =
      let other : Annotation = record { index = 0; credit = constant 0; atoms = [] } in
      sym (get_or-map (λ (x : Annotated). x.index) list k there 0 l)
      ∙ ap (λ m. get_or m k 0) t.indexed
      ∙ get_or-map (λ (a : Annotation). a.index) (annotations_at bytes h list) k other 0 (rw annotations_long l)
      ∙ ap (λ (a : Annotation). a.index) (annotation_in k other there l)

  -- there is an annotation at each place
  pub placed_in : (k : ℕ) (there : Annotated) → k < length list → Placed bytes h (get_or list k there).at
  unfolding annotation_at_place
  placed_in k there l = go (annotation_from bytes h 0 (get_or list k there).at) refl (t.placed k there l)
    where
      go : (r : Result (Annotation × ℕ) Refusal) → annotation_from bytes h 0 (get_or list k there).at ≡ r → is_ok r ≡ true → Placed bytes h (get_or list k there).at
      go (Err x) e o = absurd (cc)
      go (Ok (a, next)) e o = record { next = next; is = rw (e, annotation_at_place) }

  -- what the search answers
  module _ (x : ℕ) {r : Option ℕ} (e : r ≡ position_from (λ (a : Annotated). eqb a.index x) 0 list) where
    pub found_inside : {k : ℕ} → r ≡ Some k → k < length list
    found_inside a = rw annotations_long at (found_annotation x (annotations_at bytes h list) list t.indexed r e a).inside

    pub found_there : {k : ℕ} (there : Annotated) → r ≡ Some k → annotation_at (annotations_at bytes h list) x ≡ some (annotation_at_place bytes h (get_or list k there).at)
    found_there {k} there a =
        let f = found_annotation x (annotations_at bytes h list) list t.indexed r e a in
        let other : Annotation = record { index = 0; credit = constant 0; atoms = [] } in
        f.is other ∙ ap some (annotation_in k other there (found_inside a))

    pub found_nowhere : r ≡ None → annotation_at (annotations_at bytes h list) x ≡ none
    found_nowhere a = no_annotation x (annotations_at bytes h list) list t.indexed r e a

-- ---- the policy and the code
-- a condition that ends somewhere is read up to there
ends_read : (conditions : List ℕ) (c : Condition) (next : ℕ) → Ends conditions c next → condition_at conditions c.atoms c.at ≡ Ok (atoms_in conditions c, next)
unfolding atoms_in atoms_of
ends_read conditions c next e = rw (read_next (condition_at conditions c.atoms c.at) next e).1

module _ (setting : Setting) where
  module _ {policy : Policy} {routine : Routine} (stands : Stands setting policy routine) where
    pub regions_stand : policy.regions ≡ setting.tables.regions.now
    unfolding policy_of
    regions_stand = ap (λ p. p.regions) stands.policy_is ∙ sym setting.same_regions

    pub tables_stand : TablesStand setting.tables policy routine
    tables_stand = record { regions_are = regions_stand; annotations_are = stands.annotations_are }

    pub limit_stands : policy.limit ≡ setting.policy.limit
    unfolding policy_of
    limit_stands = ap (λ p. p.limit) stands.policy_is

    pub precondition_stands : atoms_at setting.conditions.now (length setting.conditions.now) register_count setting.policy.precondition.atoms setting.policy.precondition.at ≡ Ok (policy.precondition, setting.policy.postcondition.at)
    unfolding policy_of
    precondition_stands = ends_read _ _ _ (setting.policy_fits.precondition_ends) ∙ ap (λ p. Ok (p.precondition, setting.policy.postcondition.at)) (sym stands.policy_is)

    pub postcondition_stands : atoms_at setting.conditions.now (length setting.conditions.now) register_count setting.policy.postcondition.atoms setting.policy.postcondition.at ≡ Ok (policy.postcondition, length setting.conditions.now)
    unfolding policy_of
    postcondition_stands = ends_read _ _ _ (setting.policy_fits.postcondition_ends) ∙ ap (λ p. Ok (p.postcondition, length setting.conditions.now)) (sym stands.policy_is)

    pub code_long : length routine.code ≡ setting.tables.routine.header.instructions
    code_long = code_length setting.tables.routine.bytes.now setting.tables.routine.header stands.code_read
