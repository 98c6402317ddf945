-- What is answered for a routine once the checks before it have passed. Assumes nothing.
use Rattle.std.specs.Prelude.{◌≡◌, List, ℕ}
use Rattle.model.specs.Result.{Result, Ok, ◌>>=◌}
use Rattle.model.specs.Policy.{Policy}
use Rattle.model.specs.Package.{read_code, proof_start}
use Rattle.model.specs.Annotation.{read_annotations}
use Rattle.model.specs.Routine.{Routine, targets_allowed}
use Rattle.model.specs.Goals.{trace_of}
use Rattle.model.specs.Verdict.{answered, judge}
use Rattle.model.specs.declared.Header.{Header}
use Rattle.model.specs.declared.Instruction.{Instruction}
use Rattle.model.specs.declared.Refusal.{Refusal}
use Rattle.model.specs.declared.Verdict.{Verdict}

module _ (bytes : List ℕ) where
  -- the verdict on a routine, or the refusal in its place
  unfoldable pub routine_verdict : Policy → Result Routine Refusal → Verdict
  routine_verdict policy r = answered r 0 (λ routine. judge bytes policy (trace_of policy routine) routine.proof 0)

  -- checks 10, 11 and 12 of a package whose code has been read
  unfoldable pub routine_from : Header → List Instruction → Result Routine Refusal
  routine_from h code = do
    annotations ← read_annotations bytes h
    _ ← targets_allowed annotations 0 code
    Ok (record { code = code; annotations = annotations; proof = proof_start h })

  -- the answer for a code that was checked
  pub record AnnotationsChecked (policy : Policy) (h : Header) (r : Verdict) : Type 0 where
    pub is : (code : List Instruction) → read_code bytes h ≡ Ok code → r ≡ routine_verdict policy (routine_from h code)
