-- The readers of instructions, one instruction at a time. Assumes nothing.
use Rattle.std.specs.Prelude.{List, ℕ, ◌+◌, ◌*◌, get_or}
use Rattle.model.specs.Result.{Result, Ok, check, map_err, ◌>>=◌, map_ok}
use Rattle.model.specs.Word.{le32}
use Rattle.model.specs.Instruction.{decode, target_inside}
use Rattle.model.specs.Package.{immediate_start}
use Rattle.model.specs.declared.Header.{Header}
use Rattle.model.specs.declared.Instruction.{Instruction}
use Rattle.model.specs.declared.Refusal.{Refusal}
use Rattle.model.specs.declared.Refusal.TheVariants.{BadInstruction, BadTarget}

-- checks 8 and 9 at one index: the step of `instructions_from`
unfoldable pub instruction_at : List ℕ → Header → (index : ℕ) → Result Instruction Refusal
instruction_at bytes h index = do
  let p = 12 + 4 * index
  let i = le32 bytes (immediate_start h + 4 * index)
  instruction ← map_err (λ _. BadInstruction index) (decode (get_or bytes p 0) (get_or bytes (p + 1) 0) (get_or bytes (p + 2) 0) (get_or bytes (p + 3) 0) i)
  _ ← check (target_inside h.instructions instruction) (BadTarget index)
  Ok instruction

-- the answer for a code of which only the checks are wanted
unfoldable pub code_checked : Result (List Instruction) Refusal → Result (Unit {0}) Refusal
code_checked r = map_ok (λ code. tt) r
