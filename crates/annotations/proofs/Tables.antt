-- The laws of the list of annotations, one for each way out of its reader. Assumes nothing.
use mathlib.Core.Path.{◌≡◌, refl, sym, ap, ◌∙◌}
use mathlib.Core.Bool.{◌&&◌, and-eq-true_iff}
use mathlib.Core.List.{List, [], ◌∷◌, ◌++◌, map, append_assoc, append-nil}
use native.Mathlib.Omega.{arith}
use Prim.Native.Nat.{ℕ, suc, ◌+◌, ◌-◌, ◌≤◌, ◌<◌, zero-le}
use lib.ListN.{length, length-append}
use lib.Dec.{leb, ltb, eqb}
use borrow.Author.Tests.{le-leb, eq-eqb, ne_eqb}
use Rattle.std.specs.List.{All}
use Rattle.std.proofs.lemmas.List.Elements.{All-nil, All-push}
use Rattle.model.specs.Result.{Result, Err, Ok, ◌>>=◌, check}
use Rattle.model.specs.Field.{half_at}
use Rattle.model.specs.Package.{annotation_start, proof_start}
use Rattle.model.specs.Annotation.{Annotation, annotation_field, annotation_from, annotations_from, read_annotations}
use Rattle.model.specs.declared.Header.{Header}
use Rattle.model.specs.declared.Refusal.{Refusal}
use Rattle.model.specs.declared.Refusal.TheVariants.{BadAnnotation, AnnotationBytes}
use Rattle.model.proofs.Results.{bound, past_check}
use Rattle.annotations.specs.declared.reading.AnnotationRead.{AnnotationRead}
use Rattle.annotations.specs.declared.reading.Annotated.{Annotated}
use Rattle.annotations.specs.Annotations.{read_of, Inside, annotation_at_place, Placed, annotations_at, indexes_of, indexes_in}

-- one more at the end of a list
map_push : {A B : Type 0} (f : A → B) (l : List A) (a : A) → map f (l ++ (a ∷ [])) ≡ map f l ++ (f a ∷ [])
map_push f [] a = refl
map_push {B = B} f (x ∷ l) a = ap (λ (m : List B). f x ∷ m) (map_push f l a)

module _ (bytes : List ℕ) (h : Header) where
  -- ---- what an answer says of the annotation

  -- an annotation that stands after others stands by itself
  pub any_lowest : (lowest p : ℕ) (x : Annotation × ℕ) → annotation_from bytes h lowest p ≡ Ok x → annotation_from bytes h 0 p ≡ Ok x
  unfolding annotation_from ◌>>=◌ check
  any_lowest lowest p x e =
      let b = bound (annotation_field bytes h (half_at bytes (proof_start h) p)) _ e in
      let c = bound (check (leb lowest b.0 && ltb b.0 h.instructions) (BadAnnotation p)) _ b.2 in
      let t = (and-eq-true_iff (leb lowest b.0) (ltb b.0 h.instructions)).0 (past_check _ _ c.1) in
      rw (b.1, le-leb 0 b.0 zero-le, t.1, annotation_from) c.2

  read_one : (m : Result (Annotation × ℕ) Refusal) (r : AnnotationRead) → Ok r ≡ read_of m → (a : Annotation) × (a.index ≡ r.index) × (m ≡ Ok (a, r.next))
  unfolding read_of
  read_one (Err x) r e = absurd (cc)
  read_one (Ok (a, q)) r e = let same : r ≡ record { index = a.index; next = q } = cc in (a, rw same, rw same)

  read_none : (m : Result (Annotation × ℕ) Refusal) (x : Refusal) → Err x ≡ read_of m → m ≡ Err x
  unfolding read_of
  read_none (Err y) x e = let f : x ≡ y = cc in rw f
  read_none (Ok (a, q)) x e = absurd (cc)

  at_place : (p : ℕ) (x : Annotation × ℕ) → annotation_from bytes h 0 p ≡ Ok x → annotation_at_place bytes h p ≡ x.0
  unfolding annotation_at_place
  at_place p x e = rw (e, annotation_at_place)

  -- the annotation at p, its index and the next position
  record Stands (lowest p index q : ℕ) : Type 0 where
    is : annotation_from bytes h lowest p ≡ Ok (annotation_at_place bytes h p, q)
    named : (annotation_at_place bytes h p).index ≡ index
    placed : Placed bytes h p

  stands : (lowest p : ℕ) (r : AnnotationRead) → Ok r ≡ read_of (annotation_from bytes h lowest p) → Stands lowest p r.index r.next
  stands lowest p r e =
      let a = read_one (annotation_from bytes h lowest p) r e in
      let from = any_lowest lowest p (a.0, r.next) a.2 in
      let same : annotation_at_place bytes h p ≡ a.0 = at_place p (a.0, r.next) from in
      record {
        is = a.2 ∙ ap (λ (x : Annotation). Ok (x, r.next)) (sym same);
        named = ap (λ (x : Annotation). x.index) same ∙ a.1;
        placed = record { next = r.next; is = from ∙ ap (λ (x : Annotation). Ok (x, r.next)) (sym same) };
      }

  -- ---- all of them

  -- 11 for spare bytes, and the annotations that were read before
  pub finish : List Annotation → List Annotation × ℕ → Result (List Annotation) Refusal
  finish before x = check (eqb x.1 (proof_start h)) (AnnotationBytes x.1) >>= λ _. Ok (before ++ x.0)

  one_more : (count lowest p index q : ℕ) → count < h.annotations → Stands lowest p index q
      → annotations_from bytes h (h.annotations - count) lowest p ≡ (annotations_from bytes h (h.annotations - (count + 1)) (index + 1) q >>= λ x. Ok (annotation_at_place bytes h p ∷ x.0, x.1))
  unfolding annotations_from ◌>>=◌
  one_more count lowest p index q l s =
      let e : h.annotations - count ≡ suc (h.annotations - (count + 1)) = omega arith in
      ap (λ (k : ℕ). annotations_from bytes h k lowest p) e ∙ rw (s.is, s.named, annotations_from)

  ends : (count lowest p : ℕ) (x : Refusal) → count < h.annotations → annotation_from bytes h lowest p ≡ Err x → annotations_from bytes h (h.annotations - count) lowest p ≡ Err x
  unfolding annotations_from ◌>>=◌
  ends count lowest p x l s =
      let e : h.annotations - count ≡ suc (h.annotations - (count + 1)) = omega arith in
      ap (λ (k : ℕ). annotations_from bytes h k lowest p) e ∙ rw (s, annotations_from)

  none_left : (count lowest p : ℕ) → h.annotations ≤ count → annotations_from bytes h (h.annotations - count) lowest p ≡ Ok ([], p)
  unfolding annotations_from
  none_left count lowest p l = let e : h.annotations - count ≡ 0 = omega arith in ap (λ (k : ℕ). annotations_from bytes h k lowest p) e

  joined : (m : Result (List Annotation × ℕ) Refusal) (before : List Annotation) (a : Annotation) → ((m >>= λ x. Ok (a ∷ x.0, x.1)) >>= finish before) ≡ (m >>= finish (before ++ (a ∷ [])))
  unfolding ◌>>=◌ finish
  joined (Err e) before a = refl
  joined (Ok x) before a = ap (λ (l : List Annotation). check (eqb x.1 (proof_start h)) (AnnotationBytes x.1) >>= λ _. Ok l) (sym (append_assoc before (a ∷ []) x.0))

  -- so many annotations are in the list, and the reading goes on at p
  pub record Noting (list : List Annotated) (lowest p count : ℕ) : Type 0 where
    pub long : length list ≡ count
    pub near : p ≤ proof_start h
    pub listed : indexes_in list ≡ indexes_of (annotations_at bytes h list)
    pub placed : All (λ (x : Annotated). Placed bytes h x.at) list
    pub rest : read_annotations bytes h ≡ (annotations_from bytes h (h.annotations - count) lowest p >>= finish (annotations_at bytes h list))

  pub note_start : (list : List Annotated) (p : ℕ) → list ≡ [] → p ≡ annotation_start h → Noting list 0 p 0
  unfolding read_annotations finish ◌>>=◌
  note_start list p none e = rw none (record {
    long = refl;
    near = omega arith;
    listed = refl;
    placed = All-nil _;
    rest = let s : h.annotations ≡ h.annotations - 0 = omega arith in rw e (ap (λ (k : ℕ). annotations_from bytes h k 0 (annotation_start h) >>= finish []) s);
  })

  module _ (list : List Annotated) (lowest p count : ℕ) (g : Noting list lowest p count) where
    module _ (l : count < h.annotations) where
      pub note_more : (r : AnnotationRead) → Ok r ≡ read_of (annotation_from bytes h lowest p) → Inside h r → (more : List Annotated) → more ≡ list ++ (record { index = r.index; at = p } ∷ []) → Noting more (r.index + 1) r.next (count + 1)
      note_more r e inside more is =
          let s = stands lowest p r e in
          let a = annotation_at_place bytes h p in
          let x : Annotated = record { index = r.index; at = p } in
          let with_one : annotations_at bytes h (list ++ (x ∷ [])) ≡ annotations_at bytes h list ++ (a ∷ []) = map_push (λ (y : Annotated). annotation_at_place bytes h y.at) list x in
          rw is (record {
            long = simp length-append (omega (arith, g.long));
            near = inside.1;
            listed = rw (with_one, map_push (λ (y : Annotated). y.index) list x, map_push (λ (y : Annotation). y.index) (annotations_at bytes h list) a, s.named, g.listed);
            placed = All-push (λ (y : Annotated). Placed bytes h y.at) list x g.placed s.placed;
            rest = rw with_one (g.rest ∙ ap (λ (m : Result (List Annotation × ℕ) Refusal). m >>= finish (annotations_at bytes h list)) (one_more count lowest p r.index r.next l s) ∙ joined _ (annotations_at bytes h list) a);
          })

      pub note_refused : (x : Refusal) → Err x ≡ read_of (annotation_from bytes h lowest p) → Err x ≡ read_annotations bytes h
      unfolding ◌>>=◌
      note_refused x e = sym (g.rest ∙ rw (ends count lowest p x l (read_none (annotation_from bytes h lowest p) x e)))

    module _ (all : h.annotations ≤ count) where
      pub note_spare : (p ≡ proof_start h → ⊥) → Err (AnnotationBytes p) ≡ read_annotations bytes h
      unfolding finish ◌>>=◌ check
      note_spare n = sym (g.rest ∙ rw (none_left count lowest p all, ne_eqb p (proof_start h) n, finish))

      pub note_done : p ≡ proof_start h → Ok (annotations_at bytes h list) ≡ read_annotations bytes h
      unfolding finish ◌>>=◌ check
      note_done e = sym (g.rest ∙ rw (none_left count lowest p all, eq-eqb p (proof_start h) e, append-nil, finish))
