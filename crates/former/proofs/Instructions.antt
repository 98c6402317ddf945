-- "a package whose n is not 257 to 512 keeps its reading and verdict"; any other was refused. Assumes nothing.
use Prim.Native.Nat.{ℕ, ◌≤◌}
use mathlib.Core.Bool.{Bool, true, false, ◌&&◌, and-eq-true_iff}
use mathlib.Core.List.{List}
use mathlib.Core.Logic.{◌⊎◌, inl, inr}
use mathlib.Core.Path.{◌≡◌, refl, sym, ◌∙◌}
use native.Mathlib.Omega.{arith}
use lib.Dec.{leb}
use lib.ListN.{length}
use borrow.Author.Tests.{leb-true, leb-false, le-leb, lt-leb}
use Rattle.model.specs.Result.{Err, ◌>>=◌, check}
use Rattle.model.specs.Refusal.{number_of, place_of}
use Rattle.model.specs.Word.{le16}
use Rattle.model.specs.Package.{most_instructions, read_header, code_of, proof_section, finder_answer}
use Rattle.model.specs.Routine.{read_routine}
use Rattle.model.specs.Verdict.{answered, read_inputs, check_of}
use Rattle.model.specs.Runner.{read_start, run_of}
use Rattle.model.specs.declared.Refusal.TheVariants.{BadHeader}
use Rattle.former.specs.Instructions.{former_most, former_header, code_by, routine_by, inputs_by, check_by, start_by, run_by, section_by, finding_by, first_long, last_long, long_count, long_routine, Answers, RefusedByLength, LongerRoutines}

module _ (bytes : List ℕ) where
  -- by today's check 7 the answers are today's
  same : Answers bytes (read_header bytes)
  unfolding code_by routine_by inputs_by check_by start_by run_by section_by finding_by code_of read_routine read_inputs check_of read_start run_of proof_section finder_answer
  same = record { code = refl; routine = refl; checked = λ w p. refl; run = λ p r m b. refl; section = refl; finding = refl }

  -- a package refused by its n
  refused_by_length : RefusedByLength bytes (Err (BadHeader 0))
  unfolding code_by routine_by inputs_by check_by start_by run_by section_by finding_by answered ◌>>=◌ check number_of place_of
  refused_by_length = record {
    checked = λ w p policy room read. rw (room, read, check_by) refl;
    run = λ p r m b policy read sixteen words. rw (read, sixteen, words, run_by) refl;
    section = refl;
    finding = refl;
  }

-- ---- a conjunction that is false
either : {p q : Bool} → (p && q) ≡ false → (p ≡ false) ⊎ (q ≡ false)
either {p = false} h = inl refl
either {p = true} h = inr h

second : {p q : Bool} → (p && q) ≡ false → p ≡ true → q ≡ false
second {p = false} h e = cc
second {p = true} h e = h

-- the test of n, by the two limits
test_kept : (n : ℕ) → long_count n ≡ false → leb n former_most ≡ leb n most_instructions
test_kept n h = by_limits (either h)
  where
    by_limits : (leb first_long n ≡ false) ⊎ (leb n last_long ≡ false) → leb n former_most ≡ leb n most_instructions
    by_limits (inl e) = le-leb n former_most (omega (arith, leb-false first_long n e)) ∙ sym (le-leb n most_instructions (omega (arith, leb-false first_long n e)))
    by_limits (inr e) = lt-leb n former_most (omega (arith, leb-false n last_long e)) ∙ sym (lt-leb n most_instructions (omega (arith, leb-false n last_long e)))

module _ (bytes : List ℕ) where
  header_kept : long_routine bytes ≡ false → former_header bytes ≡ read_header bytes
  unfolding former_header read_header ◌>>=◌ check
  header_kept h = by_header (leb 12 (length bytes)) refl
    where
      by_header : (there : Bool) → leb 12 (length bytes) ≡ there → former_header bytes ≡ read_header bytes
      by_header false e = rw e refl
      by_header true e = rw e (rw (test_kept (le16 bytes 0) (second h (le-leb _ (length bytes) (omega (arith, leb-true 12 (length bytes) e))))) refl)

  header_refused : long_routine bytes ≡ true → former_header bytes ≡ Err (BadHeader 0)
  unfolding former_header ◌>>=◌ check
  header_refused h =
      let there = (and-eq-true_iff _ (long_count (le16 bytes 0))).0 h in
      let long = leb-true _ (length bytes) there.0 in
      let many : first_long ≤ le16 bytes 0 = leb-true first_long (le16 bytes 0) ((and-eq-true_iff (leb first_long (le16 bytes 0)) (leb (le16 bytes 0) last_long)).0 there.1).0 in
      rw (le-leb 12 (length bytes) (omega (arith, long)), le-leb 1 (le16 bytes 0) (omega (arith, many)), lt-leb (le16 bytes 0) former_most (omega (arith, many))) refl

  pub longer_routines : LongerRoutines bytes
  longer_routines = record {
    same = same bytes;
    header = header_kept;
    kept = λ h. rw (header_kept h) (same bytes);
    refused = λ h. rw (header_refused h) (refused_by_length bytes);
  }
