-- The runner's answer, and the registers and memory that it leaves. Assumes nothing.
use Rattle.std.specs.Prelude.{ℕ, zero, suc, ◌+◌, ◌&&◌, List, length, eqb}
use Rattle.model.specs.Result.{Result, Err, Ok, ◌>>=◌, check}
use Rattle.model.specs.Refusal.{number_of, place_of}
use Rattle.model.specs.Policy.{Policy, read_policy}
use Rattle.model.specs.Package.{code_of}
use Rattle.model.specs.Machine.{State, start_of, next, returns, without_right, past_end, step}
use Rattle.model.specs.declared.Instruction.{Instruction}
use Rattle.model.specs.declared.Outcome.{Outcome}
use Rattle.model.specs.declared.Refusal.{Refusal}
use Rattle.model.specs.declared.Refusal.TheVariants.{WrongStart}

-- the answer "number, place, steps run", and the lent registers and memory
pub record Run : Type 0 where
  pub outcome : Outcome
  pub registers : List ℕ
  pub memory : List ℕ

-- a run that stops in a state: "place (the counter; after a return, the return's index)"
abbrev pub stopped : (number steps : ℕ) → State → Run
stopped number steps s =
    record {
      outcome = record { number = number; place = s.counter; steps = steps };
      registers = s.registers;
      memory = s.memory;
    }

-- "0 returned, 20 budget spent, 21 access without the right, 22 counter at n. Budget is tested first at each step"; `steps` are run so far
unfoldable pub run_from : Policy → List Instruction → (budget steps : ℕ) → State → Run
run_from policy code zero steps s = stopped 20 steps s
run_from policy code (suc budget) steps s =
    elim (step policy code s) [
      | next t ↦ run_from policy code budget (steps + 1) t
      | returns ↦ stopped 0 (steps + 1) s
      | without_right ↦ stopped 21 steps s
      | past_end ↦ stopped 22 steps s
    ]

-- "The runner makes checks 3 to 6, 2, 7, 8, 9". "2: registers not 16 words or memory not M words; tested after 6; place 0"
unfoldable pub read_start : (policy_bytes package_bytes registers memory : List ℕ) → Result (Policy × List Instruction) Refusal
read_start policy_bytes package_bytes registers memory = do
  policy ← read_policy policy_bytes
  _ ← check (eqb (length registers) 16 && eqb (length memory) policy.memory) (WrongStart)
  code ← code_of package_bytes
  Ok (policy, code)

-- "and leaves registers and memory untouched if one refuses", with 0 steps
unfoldable pub run_of : (policy_bytes package_bytes registers memory : List ℕ) (budget : ℕ) → Run
run_of policy_bytes package_bytes registers memory budget =
    elim (read_start policy_bytes package_bytes registers memory) [
      | Err r ↦ record {
        outcome = record { number = number_of r; place = place_of r; steps = 0 };
        registers = registers;
        memory = memory;
      }
      | Ok start ↦ run_from start.0 start.1 budget 0 (start_of registers memory)
    ]
