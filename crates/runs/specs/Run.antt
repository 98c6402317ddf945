-- What the run of decoded code leaves. Assumes nothing.
use Rattle.std.specs.Prelude.{◌≡◌, List, ℕ, ◌≤◌, length, All}
use Rattle.model.specs.Policy.{Policy}
use Rattle.model.specs.Expression.{register_count}
use Rattle.model.specs.Package.{most_instructions}
use Rattle.model.specs.Machine.{start_of}
use Rattle.model.specs.Runner.{run_from}
use Rattle.model.specs.declared.Region.{Region}
use Rattle.model.specs.declared.Instruction.{Instruction}
use Rattle.model.specs.declared.Outcome.{Outcome}
use Rattle.decoding.specs.Decoding.{Formed}
use Rattle.machine.specs.Step.{Under}
use Rattle.runs.specs.Counted.{Counted}

-- what a run asks of its arguments
pub record Runnable (code : List Instruction) (registers : List ℕ) : Type 0 where
  pub short : length code ≤ most_instructions
  pub sixteen : length registers ≡ register_count
  pub formed : All (Formed (length code)) code

-- the outcome, and the registers and memory left, under every policy of that memory size with these regions
pub record Ran (code : List Instruction) (regions : List Region) (registers memory : List ℕ) (budget : ℕ) (r : Outcome) (registers' memory' : List ℕ) : Type 0 where
  -- they are those of the machine's run
  pub run : (policy : Policy) → Under policy (length memory) regions
      → record { outcome = r; registers = registers'; memory = memory' } ≡ run_from policy code budget 0 (start_of registers memory)
  -- and the steps counted are the machine's to the state left
  pub steps : (policy : Policy) → Under policy (length memory) regions
      → Counted policy code (start_of registers memory) budget (record { outcome = r; registers = registers'; memory = memory' })
