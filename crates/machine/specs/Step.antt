-- What a step on lent registers and memory comes to. Assumes nothing.
use Rattle.std.specs.Prelude.{◌≡◌, Bool, true, false, List, ℕ, ◌+◌, ◌<◌, length}
use Rattle.model.specs.Policy.{Policy}
use Rattle.model.specs.Expression.{register_count}
use Rattle.model.specs.Package.{most_instructions}
use Rattle.model.specs.Machine.{State, Step, next, returns, without_right, execute}
use Rattle.model.specs.declared.Region.{Region}
use Rattle.model.specs.declared.Instruction.{Instruction}
use Rattle.decoding.specs.Decoding.{Formed}
use Rattle.machine.specs.declared.Progress.{Progress}
use Rattle.machine.specs.declared.Progress.TheVariants.{Next, Returned, WithoutRight}

-- what a step asks of its arguments
pub record Ready (counter : ℕ) (registers : List ℕ) (instruction : Instruction) : Type 0 where
  pub low : counter < most_instructions
  pub sixteen : length registers ≡ register_count
  -- the instruction is one of a code of some size
  pub size : ℕ
  pub formed : Formed size instruction

abbrev pub state : (counter : ℕ) (registers memory : List ℕ) → State
state counter registers memory = record { counter = counter; registers = registers; memory = memory }

-- a policy of this memory size with these regions
pub record Under (policy : Policy) (memory : ℕ) (regions : List Region) : Type 0 where
  pub words : policy.memory ≡ memory
  pub granted : policy.regions ≡ regions

-- where a branch leads
abbrev pub target : (taken : Bool) (i counter : ℕ) → ℕ
target taken i counter = elim taken [ true ↦ i | false ↦ counter + 1 ]

-- the machine's step, from the code's answer and the registers and memory left
abbrev pub step_of : Progress → (registers memory : List ℕ) → Step
step_of (Next counter) registers memory = next (record { counter = counter; registers = registers; memory = memory })
step_of Returned registers memory = returns
step_of WithoutRight registers memory = without_right

-- what does not go on leaves registers and memory as they were
abbrev pub Kept : Progress → State → (registers memory : List ℕ) → Type 0
Kept (Next counter) s registers memory = Unit
Kept Returned s registers memory = (registers ≡ s.registers) × (memory ≡ s.memory)
Kept WithoutRight s registers memory = (registers ≡ s.registers) × (memory ≡ s.memory)

-- the machine's step of the instruction, under every policy of that memory size with these regions
pub record Executed (regions : List Region) (instruction : Instruction) (s : State) (r : Progress) (registers memory : List ℕ) : Type 0 where
  pub step : (policy : Policy) → Under policy (length s.memory) regions → step_of r registers memory ≡ execute policy s instruction
  pub kept : Kept r s registers memory
