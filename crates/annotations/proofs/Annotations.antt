-- The laws of one annotation, one for each way out of its reader. Assumes nothing.
use mathlib.Core.Path.{◌≡◌, refl, sym, ap, ◌∙◌}
use mathlib.Core.Bool.{Bool, true, false, ◌&&◌}
use mathlib.Core.List.{List}
use native.Mathlib.Omega.{arith}
use Prim.Native.Nat.{ℕ, ◌+◌, ◌≤◌, ◌<◌}
use lib.ListN.{get_or}
use lib.Dec.{leb, ltb}
use borrow.Author.Tests.{le-leb, lt-leb}
use Rattle.std.specs.Ordering.{is_le, is_lt, nat_cmp}
use Rattle.model.specs.Result.{Result, Err, Ok, ◌>>=◌, check, map_err}
use Rattle.model.specs.Word.{le16}
use Rattle.model.specs.Term.{Term}
use Rattle.model.specs.Atom.{Atom, most_atoms}
use Rattle.model.specs.Field.{byte_at, half_at}
use Rattle.model.specs.declared.ReadError.{ReadError}
use Rattle.model.specs.Expression.{register_count, expression_at, atoms_at}
use Rattle.model.specs.Package.{proof_start}
use Rattle.model.specs.Annotation.{Annotation, annotation_refusal, annotation_field, annotation_from}
use Rattle.model.specs.declared.Header.{Header}
use Rattle.model.specs.declared.Refusal.{Refusal}
use Rattle.model.specs.declared.Refusal.TheVariants.{BadAnnotation, AnnotationBytes}
use Rattle.model.proofs.Ranges.{told_below}
use Rattle.expressions.specs.Reading.{ends}
use Rattle.expressions.proofs.ReadingLaws.{read_next, still_stops}
use Rattle.annotations.specs.declared.reading.AnnotationRead.{AnnotationRead}
use Rattle.annotations.specs.Bodies.{body_at}
use Rattle.annotations.specs.Annotations.{read_of}

-- ---- the credit and the atoms

-- the position after the atoms is the position after both
same_end : (t : Term) (m : Result (List Atom × ℕ) ReadError) → ends m ≡ ends {A = Term × List Atom} (m >>= λ x. Ok ((t, x.0), x.1))
unfolding ends ◌>>=◌
same_end t (Err e) = refl
same_end t (Ok x) = refl

body_next : (bytes : List ℕ) (end count p q : ℕ) (t : Term) → expression_at bytes end register_count p ≡ Ok (t, q) → ends (atoms_at bytes end register_count count q) ≡ ends (body_at bytes end count p)
unfolding body_at ◌>>=◌
body_next bytes end count p q t e = same_end t (atoms_at bytes end register_count count q) ∙ ap ends (rw (e, body_at))

module _ (bytes : List ℕ) (end count p : ℕ) where
  pub body_goes : (q : ℕ) (r : Result ℕ ReadError) → Ok q ≡ ends (expression_at bytes end register_count p) → r ≡ ends (atoms_at bytes end register_count count q) → r ≡ ends (body_at bytes end count p)
  body_goes q r e a = let x = read_next (expression_at bytes end register_count p) q e in a ∙ body_next bytes end count p q x.0 x.1

  pub body_stops : (x : ReadError) → Err x ≡ ends (expression_at bytes end register_count p) → Err x ≡ ends (body_at bytes end count p)
  unfolding body_at
  body_stops x e = still_stops (expression_at bytes end register_count p) _ x e

-- the annotation with this index, credit and atoms, and the next position
made : ℕ → (Term × List Atom) × ℕ → Result (Annotation × ℕ) Refusal
made index b = Ok (record { index = index; credit = b.0.0; atoms = b.0.1 }, b.1)

-- the credit and the atoms are read together
module _ (g : ReadError → Refusal) (index : ℕ) where
  together_atoms : (t : Term) (m : Result (List Atom × ℕ) ReadError) → (map_err g m >>= λ y. made index ((t, y.0), y.1)) ≡ (map_err g (m >>= λ y. Ok ((t, y.0), y.1)) >>= made index)
  unfolding ◌>>=◌ map_err
  together_atoms t (Err e) = refl
  together_atoms t (Ok y) = refl

  together : (m : Result (Term × ℕ) ReadError) (f : ℕ → Result (List Atom × ℕ) ReadError) → (map_err g m >>= λ x. map_err g (f x.1) >>= λ y. made index ((x.0, y.0), y.1)) ≡ (map_err g (m >>= λ x. f x.1 >>= λ y. Ok ((x.0, y.0), y.1)) >>= made index)
  unfolding ◌>>=◌ map_err
  together (Err e) f = refl
  together (Ok x) f = together_atoms x.0 (f x.1)

  -- without the terms, what is read is the index and where the next begins
  read_end : (m : Result ((Term × List Atom) × ℕ) ReadError) → read_of (map_err g m >>= made index) ≡ (map_err g (ends m) >>= λ q. Ok (record { index = index; next = q }))
  unfolding ◌>>=◌ map_err ends read_of made
  read_end (Err e) = refl
  read_end (Ok x) = refl

-- ---- one annotation; `end` is where the section ends, and the laws follow the code's tests
module _ (bytes : List ℕ) (h : Header) (lowest p end : ℕ) (ends_at : end ≡ proof_start h) where
  abbrev here : Result AnnotationRead Refusal
  here = read_of (annotation_from bytes h lowest p)

  pub no_index : end < p + 2 → Err (AnnotationBytes end) ≡ here
  unfolding read_of annotation_from annotation_refusal half_at ◌>>=◌ check map_err
  no_index l = rw (ends_at, lt-leb (p + 2) (proof_start h) (omega arith), annotation_from)

  module _ (two : p + 2 ≤ end) (index : ℕ) (ei : index ≡ le16 bytes p) (within : Bool) (told : within ≡ (is_le (nat_cmp lowest index) && is_lt (nat_cmp index h.instructions))) where
    -- the range's test is the definition's
    tests : within ≡ (leb lowest index && ltb index h.instructions)
    tests = told_below lowest index h.instructions told

    pub bad_index : within ≡ false → Err (BadAnnotation p) ≡ here
    unfolding read_of annotation_from annotation_refusal half_at ◌>>=◌ check map_err
    bad_index n = rw (le-leb (p + 2) (proof_start h) (omega arith), ← ei, ← tests, n, annotation_from)

    module _ (passed : within ≡ true) where
      t : (leb lowest index && ltb index h.instructions) ≡ true
      t = sym tests ∙ passed

      pub no_count : end < p + 3 → Err (AnnotationBytes end) ≡ here
      unfolding read_of annotation_from annotation_refusal half_at byte_at ◌>>=◌ check map_err
      no_count l = rw (ends_at, le-leb (p + 2) (proof_start h) (omega arith), ← ei, t, lt-leb (p + 2 + 1) (proof_start h) (omega arith), annotation_from)

      module _ (three : p + 3 ≤ end) (count : ℕ) (ec : count ≡ get_or bytes (p + 2) 0) where
        pub bad_count : most_atoms < count → Err (BadAnnotation (p + 2)) ≡ here
        unfolding read_of annotation_from annotation_refusal half_at byte_at ◌>>=◌ check map_err
        bad_count l = rw (le-leb (p + 2) (proof_start h) (omega arith), ← ei, t, le-leb (p + 2 + 1) (proof_start h) (omega arith), ← ec, lt-leb count most_atoms l, annotation_from)

        module _ (few : count ≤ most_atoms) where
          -- what is left is the body
          by_body : annotation_from bytes h lowest p ≡ (annotation_field bytes h (body_at bytes end count (p + 3)) >>= made index)
          unfolding annotation_from half_at byte_at body_at ◌>>=◌ check map_err made
          by_body = rw (ends_at, le-leb (p + 2) (proof_start h) (omega arith), ← ei, t, le-leb (p + 2 + 1) (proof_start h) (omega arith), ← ec, le-leb count most_atoms few, annotation_from) (together (annotation_refusal bytes h) index (expression_at bytes (proof_start h) register_count (p + 3)) (λ q. atoms_at bytes (proof_start h) register_count count q))

          -- the body's end, with its error as the routine's refusal
          abbrev body : Result ℕ Refusal
          body = map_err (annotation_refusal bytes h) (ends (body_at bytes end count (p + 3)))

          pub no_body : (x : Refusal) → Err x ≡ body → Err x ≡ here
          unfolding ◌>>=◌
          no_body x e = sym (ap read_of by_body ∙ read_end (annotation_refusal bytes h) index (body_at bytes end count (p + 3)) ∙ rw (← e))

          pub whole : (q : ℕ) → Ok q ≡ body → Ok (record { index = index; next = q }) ≡ here
          unfolding ◌>>=◌
          whole q e = sym (ap read_of by_body ∙ read_end (annotation_refusal bytes h) index (body_at bytes end count (p + 3)) ∙ rw (← e))
