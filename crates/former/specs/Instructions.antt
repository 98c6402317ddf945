-- What checker, runner and finder answer where check 7 takes n up to 256, as it did before S-4; and what S-4 says of those answers. Assumes nothing.
use Rattle.std.specs.Prelude.{◌≡◌, ℕ, ◌&&◌, Bool, true, false, List, [], length, min, drop, leb, eqb}
use Rattle.model.specs.Result.{Result, Err, Ok, ◌>>=◌, check}
use Rattle.model.specs.Refusal.{number_of, place_of}
use Rattle.model.specs.Word.{le16, le32}
use Rattle.model.specs.Policy.{Policy, read_policy}
use Rattle.model.specs.Package.{package_length, proof_start, most_annotations, most_bytes, read_header, read_code, code_of, Part, proof_section, finder_answer}
use Rattle.model.specs.Annotation.{read_annotations}
use Rattle.model.specs.Routine.{Routine, targets_allowed, read_routine}
use Rattle.model.specs.Machine.{start_of}
use Rattle.model.specs.Goals.{trace_of}
use Rattle.model.specs.Verdict.{verdict, least_workspace, answered, judge, check_of}
use Rattle.model.specs.Runner.{Run, run_from, run_of}
use Rattle.model.specs.declared.Instruction.{Instruction}
use Rattle.model.specs.declared.Header.{Header}
use Rattle.model.specs.declared.Finding.{Finding}
use Rattle.model.specs.declared.Verdict.{Verdict}
use Rattle.model.specs.declared.Refusal.{Refusal}
use Rattle.model.specs.declared.Refusal.TheVariants.{SmallWorkspace, WrongStart, BadHeader}

-- "1 to 256"
abbrev pub former_most : ℕ
former_most = 256

-- check 7 with that limit
unfoldable pub former_header : List ℕ → Result Header Refusal
former_header bytes = do
  _ ← check (leb 12 (length bytes)) (BadHeader (length bytes))
  let h : Header = record { instructions = le16 bytes 0; annotations = le16 bytes 2; section = le32 bytes 4; proof = le32 bytes 8 }
  _ ← check (leb 1 h.instructions && leb h.instructions former_most) (BadHeader 0)
  _ ← check (leb h.annotations most_annotations) (BadHeader 2)
  _ ← check (eqb (length bytes) (package_length h) && leb (length bytes) most_bytes) (BadHeader (min (length bytes) most_bytes))
  Ok h

-- ---- the answers, by what check 7 reads of the package: with `read_header bytes` they are those of crates/model
module _ (bytes : List ℕ) (header : Result Header Refusal) where
  unfoldable pub code_by : Result (List Instruction) Refusal
  code_by = do
    h ← header
    read_code bytes h

  unfoldable pub routine_by : Result Routine Refusal
  routine_by = do
    h ← header
    code ← read_code bytes h
    annotations ← read_annotations bytes h
    _ ← targets_allowed annotations 0 code
    Ok (record { code = code; annotations = annotations; proof = proof_start h })

  unfoldable pub inputs_by : (workspace : ℕ) (policy_bytes : List ℕ) → Result (Policy × Routine) Refusal
  inputs_by workspace policy_bytes = do
    _ ← check (leb least_workspace workspace) (SmallWorkspace)
    policy ← read_policy policy_bytes
    routine ← routine_by
    Ok (policy, routine)

  unfoldable pub check_by : (workspace : ℕ) (policy_bytes : List ℕ) → Verdict
  check_by workspace policy_bytes =
      answered (inputs_by workspace policy_bytes) 0 (λ inputs.
      judge bytes inputs.0 (trace_of inputs.0 inputs.1) inputs.1.proof 0)

  unfoldable pub start_by : (policy_bytes registers memory : List ℕ) → Result (Policy × List Instruction) Refusal
  start_by policy_bytes registers memory = do
    policy ← read_policy policy_bytes
    _ ← check (eqb (length registers) 16 && eqb (length memory) policy.memory) (WrongStart)
    code ← code_by
    Ok (policy, code)

  unfoldable pub run_by : (policy_bytes registers memory : List ℕ) (budget : ℕ) → Run
  run_by policy_bytes registers memory budget =
      elim (start_by policy_bytes registers memory) [
        | Err r ↦ record {
          outcome = record { number = number_of r; place = place_of r; steps = 0 };
          registers = registers;
          memory = memory;
        }
        | Ok start ↦ run_from start.0 start.1 budget 0 (start_of registers memory)
      ]

  unfoldable pub section_by : Part
  section_by =
      elim header [
        | Err r ↦ record { start = 0; contents = [] }
        | Ok h ↦ record { start = proof_start h; contents = drop (proof_start h) bytes }
      ]

  unfoldable pub finding_by : Finding
  finding_by =
      elim header [
        | Err r ↦ record { number = number_of r; place = place_of r }
        | Ok h ↦ record { number = 0; place = 0 }
      ]

-- ---- the answers with the former limit
abbrev pub former_check : (workspace : ℕ) (policy_bytes package_bytes : List ℕ) → Verdict
former_check workspace policy_bytes package_bytes = check_by package_bytes (former_header package_bytes) workspace policy_bytes

abbrev pub former_run : (policy_bytes package_bytes registers memory : List ℕ) (budget : ℕ) → Run
former_run policy_bytes package_bytes registers memory budget = run_by package_bytes (former_header package_bytes) policy_bytes registers memory budget

abbrev pub former_section : List ℕ → Part
former_section bytes = section_by bytes (former_header bytes)

abbrev pub former_finding : List ℕ → Finding
former_finding bytes = finding_by bytes (former_header bytes)

-- ---- what S-4 says
-- "257 to 512"
abbrev pub first_long : ℕ
first_long = 257

abbrev pub last_long : ℕ
last_long = 512

abbrev pub long_count : ℕ → Bool
long_count n = leb first_long n && leb n last_long

-- "n is 257 to 512": so says a header that is there
abbrev pub long_routine : List ℕ → Bool
long_routine bytes = leb 12 (length bytes) && long_count (le16 bytes 0)

-- the answers to a package are those of crates/model where check 7 reads `header` of it
pub record Answers (bytes : List ℕ) (header : Result Header Refusal) : Type 0 where
  -- the reading
  pub code : code_by bytes header ≡ code_of bytes
  pub routine : routine_by bytes header ≡ read_routine bytes
  -- checker, runner and finder
  pub checked : (workspace : ℕ) (policy_bytes : List ℕ) → check_by bytes header workspace policy_bytes ≡ check_of workspace policy_bytes bytes
  pub run : (policy_bytes registers memory : List ℕ) (budget : ℕ) → run_by bytes header policy_bytes registers memory budget ≡ run_of policy_bytes bytes registers memory budget
  pub section : section_by bytes header ≡ proof_section bytes
  pub finding : finding_by bytes header ≡ finder_answer bytes

-- check 7 refuses a package by its n, at place 0, where the checks before it pass
pub record RefusedByLength (bytes : List ℕ) (header : Result Header Refusal) : Type 0 where
  pub checked : (workspace : ℕ) (policy_bytes : List ℕ) (policy : Policy) → leb least_workspace workspace ≡ true → read_policy policy_bytes ≡ Ok policy → check_by bytes header workspace policy_bytes ≡ verdict 7 0 0
  pub run : (policy_bytes registers memory : List ℕ) (budget : ℕ) (policy : Policy) → read_policy policy_bytes ≡ Ok policy → eqb (length registers) 16 ≡ true → eqb (length memory) policy.memory ≡ true
      → run_by bytes header policy_bytes registers memory budget ≡ record { outcome = record { number = 7; place = 0; steps = 0 }; registers = registers; memory = memory }
  pub section : section_by bytes header ≡ record { start = 0; contents = [] }
  pub finding : finding_by bytes header ≡ record { number = 7; place = 0 }

-- "a package whose n is not 257 to 512 keeps its reading and verdict"; any other was refused
pub record LongerRoutines (bytes : List ℕ) : Type 0 where
  pub same : Answers bytes (read_header bytes)
  pub header : long_routine bytes ≡ false → former_header bytes ≡ read_header bytes
  pub kept : long_routine bytes ≡ false → Answers bytes (former_header bytes)
  pub refused : long_routine bytes ≡ true → RefusedByLength bytes (former_header bytes)
