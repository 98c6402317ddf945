-- What the readers of annotations promise. Assumes nothing.
use Rattle.std.specs.Prelude.{◌≡◌, List, [], map, ℕ, ◌≤◌, ◌<◌, length, get_or}
use Rattle.model.specs.Result.{Result, Err, Ok, map_ok}
use Rattle.model.specs.Term.{constant}
use Rattle.model.specs.Package.{proof_start}
use Rattle.model.specs.Annotation.{Annotation, annotation_from}
use Rattle.model.specs.declared.Header.{Header}
use Rattle.model.specs.declared.Refusal.{Refusal}
use Rattle.annotations.specs.declared.reading.AnnotationRead.{AnnotationRead}
use Rattle.annotations.specs.declared.reading.Annotated.{Annotated}

-- an annotation without its terms: its index and the next position
unfoldable pub read_of : Result (Annotation × ℕ) Refusal → Result AnnotationRead Refusal
read_of r = map_ok (λ x. record { index = x.0.index; next = x.1 }) r

-- the index is below n, and the next position no further than the section's end
abbrev pub Inside : Header → AnnotationRead → Type 0
Inside h r = (r.index < h.instructions) × (r.next ≤ proof_start h)

-- ---- all annotations, by their places

-- the annotation at a place, whatever its index
unfoldable pub annotation_at_place : List ℕ → Header → (p : ℕ) → Annotation
annotation_at_place bytes h p =
    elim (annotation_from bytes h 0 p) [
      | Err x ↦ record { index = 0; credit = constant 0; atoms = [] }
      | Ok x ↦ x.0
    ]

-- there is one, and where the next begins
pub record Placed (bytes : List ℕ) (h : Header) (p : ℕ) : Type 0 where
  pub next : ℕ
  pub is : annotation_from bytes h 0 p ≡ Ok (annotation_at_place bytes h p, next)

-- the annotations at the places of a list
abbrev pub annotations_at : List ℕ → Header → List Annotated → List Annotation
annotations_at bytes h list = map (λ (x : Annotated). annotation_at_place bytes h x.at) list

abbrev pub indexes_of : List Annotation → List ℕ
indexes_of annotations = map (λ (a : Annotation). a.index) annotations

-- the indexes that a list has beside the places
abbrev pub indexes_in : List Annotated → List ℕ
indexes_in list = map (λ (x : Annotated). x.index) list

-- as many as the header says; the index beside each place is that of the annotation there
pub record Tabled (bytes : List ℕ) (h : Header) (list : List Annotated) : Type 0 where
  pub long : length list ≡ h.annotations
  pub listed : indexes_in list ≡ indexes_of (annotations_at bytes h list)
  pub placed : (k : ℕ) (other : Annotated) → k < length list → Placed bytes h (get_or list k other).at

-- the annotations of a list with their terms, or the refusal
unfoldable pub with_terms : List ℕ → Header → Result (List Annotated) Refusal → Result (List Annotation) Refusal
with_terms bytes h r = map_ok (annotations_at bytes h) r
