-- What the answers about annotations say, for callers. Assumes nothing.
use mathlib.Core.Path.{◌≡◌, sym, subst}
use mathlib.Core.Bool.{true, ◌&&◌, and-eq-true_iff}
use mathlib.Core.List.{List}
use native.Mathlib.Omega.{arith}
use Prim.Native.Nat.{ℕ, ◌+◌, ◌≤◌, ◌<◌}
use lib.ListN.{get_or}
use lib.Dec.{leb, ltb}
use borrow.Author.Tests.{leb-true, ltb-true}
use Rattle.model.specs.Result.{Result, Err, Ok, check, ◌>>=◌}
use Rattle.model.specs.Word.{le16}
use Rattle.model.specs.Term.{Term}
use Rattle.model.specs.Atom.{Atom, most_atoms}
use Rattle.model.specs.Field.{byte_at, half_at}
use Rattle.model.specs.declared.ReadError.TheVariants.{Missing}
use Rattle.model.specs.Expression.{register_count, expression_at, atoms_at}
use Rattle.model.specs.Package.{proof_start}
use Rattle.model.specs.Annotation.{Annotation, annotation_field, annotation_from, read_annotations}
use Rattle.model.specs.declared.Header.{Header}
use Rattle.model.specs.declared.Refusal.{Refusal}
use Rattle.model.specs.declared.Refusal.TheVariants.{BadAnnotation}
use Rattle.model.proofs.Results.{bound, past_check, past_stop}
use Rattle.annotations.specs.declared.reading.Annotated.{Annotated}
use Rattle.annotations.specs.Annotations.{annotation_at_place, Placed, annotations_at, with_terms}

-- ---- the reader's answer
module _ (bytes : List ℕ) (h : Header) (r : Result (List Annotated) Refusal) (R : with_terms bytes h r ≡ read_annotations bytes h) where
  pub annotations_passed : (list : List Annotated) → r ≡ Ok list → read_annotations bytes h ≡ Ok (annotations_at bytes h list)
  unfolding with_terms
  annotations_passed list e = sym (rw e at R)

  pub annotations_refused : (x : Refusal) → r ≡ Err x → read_annotations bytes h ≡ Err x
  unfolding with_terms
  annotations_refused x e = sym (rw e at R)

-- ---- where the parts of an annotation stand
pub record Laid (bytes : List ℕ) (h : Header) (p : ℕ) (a : Annotation) (next : ℕ) : Type 0 where
  pub inside : p + 3 ≤ proof_start h
  pub index : a.index ≡ le16 bytes p
  pub below : a.index < h.instructions
  pub few : get_or bytes (p + 2) 0 ≤ most_atoms
  pub after : ℕ
  pub credit : expression_at bytes (proof_start h) register_count (p + 3) ≡ Ok (a.credit, after)
  pub atoms : atoms_at bytes (proof_start h) register_count (get_or bytes (p + 2) 0) after ≡ Ok (a.atoms, next)

there_half : (bytes : List ℕ) (end p x : ℕ) → half_at bytes end p ≡ Ok x → (p + 2 ≤ end) × (x ≡ le16 bytes p)
unfolding half_at ◌>>=◌
there_half bytes end p x e = let b = bound (check (leb (p + 2) end) Missing) _ e in (leb-true (p + 2) end (past_check _ _ b.1), (cc))

there_byte : (bytes : List ℕ) (end p x : ℕ) → byte_at bytes end p ≡ Ok x → (p + 1 ≤ end) × (x ≡ get_or bytes p 0)
unfolding byte_at ◌>>=◌
there_byte bytes end p x e = let b = bound (check (leb (p + 1) end) Missing) _ e in (leb-true (p + 1) end (past_check _ _ b.1), (cc))

module _ (bytes : List ℕ) (h : Header) where
  from_parts : (lowest p index count : ℕ) (credit : Term × ℕ) (atoms : List Atom × ℕ) (x : Annotation × ℕ) → half_at bytes (proof_start h) p ≡ Ok index → (leb lowest index && ltb index h.instructions) ≡ true → byte_at bytes (proof_start h) (p + 2) ≡ Ok count → leb count most_atoms ≡ true
      → expression_at bytes (proof_start h) register_count (p + 3) ≡ Ok credit → atoms_at bytes (proof_start h) register_count count credit.1 ≡ Ok atoms → ◌≡◌ {A = Annotation × ℕ} (record { index = index; credit = credit.0; atoms = atoms.0 }, atoms.1) x → Laid bytes h p x.0 x.1
  from_parts lowest p index count credit atoms x ei ti ec tc et ea made =
      let i = there_half bytes (proof_start h) p index ei in
      let c = there_byte bytes (proof_start h) (p + 2) count ec in
      subst (λ (y : Annotation × ℕ). Laid bytes h p y.0 y.1) made
      (record {
        inside = omega arith;
        index = i.1;
        below = ltb-true index h.instructions ((and-eq-true_iff (leb lowest index) (ltb index h.instructions)).0 ti).1;
        few = rw (← c.1) (leb-true count most_atoms tc);
        after = credit.1;
        credit = et;
        atoms = rw (← c.1) ea;
      })

  pub laid : (lowest p : ℕ) (a : Annotation) (next : ℕ) → annotation_from bytes h lowest p ≡ Ok (a, next) → Laid bytes h p a next
  unfolding annotation_from
  laid lowest p a next e =
      let end = proof_start h in
      let i = bound (annotation_field bytes h (half_at bytes end p)) _ e in
      let it = bound (check (leb lowest i.0 && ltb i.0 h.instructions) (BadAnnotation p)) _ i.2 in
      let c = bound (annotation_field bytes h (byte_at bytes end (p + 2))) _ it.2 in
      let ct = bound (check (leb c.0 most_atoms) (BadAnnotation (p + 2))) _ c.2 in
      let t = bound (annotation_field bytes h (expression_at bytes end register_count (p + 3))) _ ct.2 in
      let l = bound (annotation_field bytes h (atoms_at bytes end register_count c.0 t.0.1)) _ t.2 in
      let made : ◌≡◌ {A = Annotation × ℕ} (record { index = i.0; credit = t.0.0; atoms = l.0.0 }, l.0.1) (a, next) = cc in
      from_parts lowest p i.0 c.0 t.0 l.0 (a, next) (past_stop _ _ i.1) (past_check _ _ it.1) (past_stop _ _ c.1) (past_check _ _ ct.1) (past_stop _ _ t.1) (past_stop _ _ l.1) made

  -- the annotation at a place of the table
  pub laid_at : {p : ℕ} (P : Placed bytes h p) → Laid bytes h p (annotation_at_place bytes h p) P.next
  laid_at {p} P = laid 0 p (annotation_at_place bytes h p) P.next P.is
