-- What the runner promises. Assumes nothing.
use Rattle.std.specs.Prelude.{◌≡◌, List, ℕ}
use Rattle.model.specs.Result.{Result, Err, Ok}
use Rattle.model.specs.Refusal.{number_of, place_of}
use Rattle.model.specs.Policy.{Policy}
use Rattle.model.specs.Package.{read_code}
use Rattle.model.specs.Machine.{start_of}
use Rattle.model.specs.Runner.{read_start, run_of}
use Rattle.model.specs.declared.Header.{Header}
use Rattle.model.specs.declared.Instruction.{Instruction}
use Rattle.model.specs.declared.Region.{Region}
use Rattle.model.specs.declared.Outcome.{Outcome}
use Rattle.model.specs.declared.Refusal.{Refusal}
use Rattle.runs.specs.Counted.{Counted}
use Rattle.runs.specs.Run.{Ran}

-- the answer of a run that a check refuses
abbrev pub refusal_outcome : Refusal → Outcome
refusal_outcome r = record { number = number_of r; place = place_of r; steps = 0 }

-- the run's answer, or that of the refusal
abbrev pub outcome_of : Result Outcome Refusal → Outcome
outcome_of (Ok outcome) = outcome
outcome_of (Err r) = refusal_outcome r

-- of a package with that header: the run of its code, or what check 8 or 9 refuses, which leaves registers and memory as they were
abbrev pub CodeRuns : (bytes : List ℕ) → Header → List Region → (registers memory : List ℕ) (budget : ℕ) → Result Outcome Refusal → (registers' memory' : List ℕ) → Type 0
CodeRuns bytes h regions registers memory budget (Err x) registers' memory' = (read_code bytes h ≡ Err x) × (registers' ≡ registers) × (memory' ≡ memory)
CodeRuns bytes h regions registers memory budget (Ok outcome) registers' memory' = (code : List Instruction) × (read_code bytes h ≡ Ok code) × Ran code regions registers memory budget outcome registers' memory'

-- what the runner promises, for every input
pub record Runs (policy_bytes bytes registers memory : List ℕ) (budget : ℕ) (r : Outcome) (registers' memory' : List ℕ) : Type 0 where
  -- the outcome, and the registers and memory left
  pub is : record { outcome = r; registers = registers'; memory = memory' } ≡ run_of policy_bytes bytes registers memory budget
  -- where no check refuses, the steps counted are the machine's to the state left
  pub steps : (policy : Policy) (code : List Instruction) → read_start policy_bytes bytes registers memory ≡ Ok (policy, code)
      → Counted policy code (start_of registers memory) budget (record { outcome = r; registers = registers'; memory = memory' })
