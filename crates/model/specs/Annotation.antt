-- The annotations: their reading with refusals 10 and 11, and the search for the one at an index. Assumes nothing.
use Rattle.std.specs.Prelude.{ℕ, zero, suc, ◌+◌, true, false, ◌&&◌, List, [], ◌∷◌, leb, ltb, eqb}
use Rattle.std.proofs.Math.Option.{Option, none, some}
use Rattle.model.specs.Result.{Result, Ok, ◌>>=◌, check, map_err}
use Rattle.model.specs.Term.{Term}
use Rattle.model.specs.Atom.{Atom, most_atoms}
use Rattle.model.specs.Field.{byte_at, half_at}
use Rattle.model.specs.declared.ReadError.{ReadError}
use Rattle.model.specs.declared.ReadError.TheVariants.{Missing, Fault}
use Rattle.model.specs.Expression.{register_count, expression_at, atoms_at}
use Rattle.model.specs.Package.{annotation_start, proof_start}
use Rattle.model.specs.declared.Header.{Header}
use Rattle.model.specs.declared.Refusal.{Refusal}
use Rattle.model.specs.declared.Refusal.TheVariants.{BadAnnotation, AnnotationBytes}

pub record Annotation : Type 0 where
  pub index : ℕ
  pub credit : Term
  pub atoms : List Atom

-- "The search for the annotation at an index stops at the first that matches."
unfoldable pub annotation_at : List Annotation → ℕ → Option Annotation
annotation_at [] index = none
annotation_at (a ∷ rest) index = elim (eqb a.index index) [ true ↦ some a | false ↦ annotation_at rest index ]

module _ (bytes : List ℕ) (h : Header) where
  -- "11: a fault as in 6, or annotation bytes missing (section's end)"
  unfoldable pub annotation_refusal : ReadError → Refusal
  annotation_refusal Missing = AnnotationBytes (proof_start h)
  annotation_refusal (Fault p) = AnnotationBytes p

  abbrev pub annotation_field : {A : Type 0} → Result A ReadError → Result A Refusal
  annotation_field = map_err annotation_refusal

  -- "An annotation is an instruction index (2 bytes, strictly rising, below n), an atom count (1 byte, 0 to 16), a credit expression,
  -- the atoms"; its index is `lowest` or more. "10: annotation index or atom count bad", in reading order
  unfoldable pub annotation_from : (lowest p : ℕ) → Result (Annotation × ℕ) Refusal
  annotation_from lowest p = do
    index ← annotation_field (half_at bytes (proof_start h) p)
    _ ← check (leb lowest index && ltb index h.instructions) (BadAnnotation p)
    count ← annotation_field (byte_at bytes (proof_start h) (p + 2))
    _ ← check (leb count most_atoms) (BadAnnotation (p + 2))
    (credit, q) ← annotation_field (expression_at bytes (proof_start h) register_count (p + 3))
    (atoms, r) ← annotation_field (atoms_at bytes (proof_start h) register_count count q)
    Ok (record { index = index; credit = credit; atoms = atoms }, r)

  -- so many annotations, one after the other
  unfoldable pub annotations_from : (left lowest p : ℕ) → Result (List Annotation × ℕ) Refusal
  annotations_from zero lowest p = Ok ([], p)
  annotations_from (suc left) lowest p = do
    (a, q) ← annotation_from lowest p
    (rest, r) ← annotations_from left (a.index + 1) q
    Ok (a ∷ rest, r)

  -- 11 for spare bytes of the section (the first)
  unfoldable pub read_annotations : Result (List Annotation) Refusal
  read_annotations = do
    (annotations, q) ← annotations_from h.annotations 0 (annotation_start h)
    _ ← check (eqb q (proof_start h)) (AnnotationBytes q)
    Ok annotations
