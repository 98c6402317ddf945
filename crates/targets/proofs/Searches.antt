-- The laws of the search, and what it says of the annotations. Assumes nothing.
use mathlib.Core.Path.{◌≡◌, refl, sym, ap, ◌∙◌}
use mathlib.Core.Bool.{cond}
use mathlib.Core.Option.{none, some}
use mathlib.Core.List.{List, [], ◌∷◌}
use native.Mathlib.Omega.{arith}
use native.Mathlib.Numerals.{add-one}
use native.Mathlib.Decide.{ℕ_discrete}
use Prim.Native.Nat.{ℕ, suc, ◌+◌, ◌≤◌, ◌<◌}
use lib.ListN.{get_or, length, drop, drop_of_length-le}
use lib.Dec.{eqb}
use lib.Seq.{drop-cons}
use borrow.Author.Tests.{eq-eqb, ne_eqb}
use Rattle.std.specs.Prelude.{Option, None, Some}
use Rattle.std.specs.List.{position_from}
use Rattle.model.specs.Annotation.{Annotation, annotation_at}
use Rattle.annotations.specs.declared.reading.Annotated.{Annotated}
use Rattle.annotations.specs.Annotations.{indexes_of, indexes_in}

-- i places are passed, and the search from there gives the same
pub record Searching (list : List Annotated) (x i : ℕ) : Type 0 where
  pub within : i ≤ length list
  pub rest : position_from (λ (a : Annotated). eqb a.index x) 0 list ≡ position_from (λ (a : Annotated). eqb a.index x) i (drop i list)

module _ (list : List Annotated) (x : ℕ) where
  pub start : Searching list x 0
  start = record { within = omega arith; rest = refl }

  module _ (i : ℕ) (s : Searching list x i) where
    module _ (h : i < length list) (other : Annotated) where
      -- what is left of the list begins with the element at i
      here : drop i list ≡ get_or list i other ∷ drop (i + 1) list
      here = rw (add-one i) (drop-cons list i other h)

      pub more : ((get_or list i other).index ≡ x → ⊥) → Searching list x (i + 1)
      more n = record { within = omega arith; rest = s.rest ∙ rw (here, ne_eqb (get_or list i other).index x n) }

      pub found : (get_or list i other).index ≡ x → Some i ≡ position_from (λ (a : Annotated). eqb a.index x) 0 list
      found e = sym (s.rest ∙ rw (here, eq-eqb (get_or list i other).index x e))

    pub nothing : length list ≤ i → None ≡ position_from (λ (a : Annotated). eqb a.index x) 0 list
    nothing h = let e : drop i list ≡ [] = drop_of_length-le list {i = i} h in sym (s.rest ∙ rw e)

-- ---- the annotation that the search finds

-- the first annotation at the index x stands at place k
pub record FoundAt (annotations : List Annotation) (x k : ℕ) : Type 0 where
  pub inside : k < length annotations
  pub is : (other : Annotation) → annotation_at annotations x ≡ some (get_or annotations k other)

module _ (x : ℕ) where
  -- the search goes by the indexes alone
  by_indexes : (list : List Annotated) (i : ℕ) → position_from (λ (a : Annotated). eqb a.index x) i list ≡ position_from (λ (n : ℕ). eqb n x) i (indexes_in list)
  by_indexes [] i = refl
  by_indexes (a ∷ rest) i = ap (λ (o : Option ℕ). cond (eqb a.index x) (Some i) o) (by_indexes rest (i + 1))

  -- at the head, and past it
  at_head : (n i : ℕ) (ns : List ℕ) → n ≡ x → position_from (λ (n : ℕ). eqb n x) i (n ∷ ns) ≡ Some i
  at_head n i ns same = rw (eq-eqb n x same)

  past_head : (n i : ℕ) (ns : List ℕ) → (n ≡ x → ⊥) → position_from (λ (n : ℕ). eqb n x) i (n ∷ ns) ≡ position_from (λ (n : ℕ). eqb n x) (i + 1) ns
  past_head n i ns apart = rw (ne_eqb n x apart)

  annotation_head : (a : Annotation) (rest : List Annotation) → a.index ≡ x → annotation_at (a ∷ rest) x ≡ some a
  unfolding annotation_at
  annotation_head a rest same = rw (eq-eqb a.index x same, annotation_at)

  annotation_past : (a : Annotation) (rest : List Annotation) → (a.index ≡ x → ⊥) → annotation_at (a ∷ rest) x ≡ annotation_at rest x
  unfolding annotation_at
  annotation_past a rest apart = rw (ne_eqb a.index x apart, annotation_at)

  found_from : (annotations : List Annotation) (i k : ℕ) → Some k ≡ position_from (λ (n : ℕ). eqb n x) i (indexes_of annotations) → (j : ℕ) × (k ≡ i + j) × FoundAt annotations x j
  found_from [] i k e = absurd (cc)
  found_from (a ∷ rest) i k e = go (ℕ_discrete a.index x) (found_from rest (i + 1) k)
    where
      go : Dec (a.index ≡ x) → (Some k ≡ position_from (λ (n : ℕ). eqb n x) (i + 1) (indexes_of rest) → (j : ℕ) × (k ≡ i + 1 + j) × FoundAt rest x j) → (j : ℕ) × (k ≡ i + j) × FoundAt (a ∷ rest) x j
      go (yes same) later =
          let p : Some k ≡ Some i = e ∙ at_head a.index i (indexes_of rest) same in
          let q : k ≡ i = cc in
          (0, omega arith, record { inside = omega arith; is = λ other. annotation_head a rest same })
      go (no apart) later =
          let r = later (e ∙ past_head a.index i (indexes_of rest) apart) in
          (suc r.0, omega (arith, r.1), record { inside = omega (arith, r.2.inside); is = λ other. annotation_past a rest apart ∙ r.2.is other })

  none_from : (annotations : List Annotation) (i : ℕ) → None ≡ position_from (λ (n : ℕ). eqb n x) i (indexes_of annotations) → annotation_at annotations x ≡ none
  unfolding annotation_at
  none_from [] i e = refl
  none_from (a ∷ rest) i e = go (ℕ_discrete a.index x) (none_from rest (i + 1))
    where
      go : Dec (a.index ≡ x) → (None ≡ position_from (λ (n : ℕ). eqb n x) (i + 1) (indexes_of rest) → annotation_at rest x ≡ none) → annotation_at (a ∷ rest) x ≡ none
      go (yes same) later =
          let p : ◌≡◌ {A = Option ℕ} None (Some i) = e ∙ at_head a.index i (indexes_of rest) same in
          absurd (cc)
      go (no apart) later = annotation_past a rest apart ∙ later (e ∙ past_head a.index i (indexes_of rest) apart)

  -- what an answer of the search says, where the list holds the annotations' indexes
  module _ (annotations : List Annotation) (list : List Annotated) (listed : indexes_in list ≡ indexes_of annotations) (r : Option ℕ) (e : r ≡ position_from (λ (a : Annotated). eqb a.index x) 0 list) where
    of_annotations : r ≡ position_from (λ (n : ℕ). eqb n x) 0 (indexes_of annotations)
    of_annotations = e ∙ by_indexes list 0 ∙ ap (λ (m : List ℕ). position_from (λ (n : ℕ). eqb n x) 0 m) listed

    pub found_annotation : {k : ℕ} → r ≡ Some k → FoundAt annotations x k
    found_annotation {k} a =
        let f = found_from annotations 0 k (sym a ∙ of_annotations) in
        let same : f.0 ≡ k = omega (arith, f.1) in
        rw (← same) f.2

    pub no_annotation : r ≡ None → annotation_at annotations x ≡ none
    no_annotation a = none_from annotations 0 (sym a ∙ of_annotations)
