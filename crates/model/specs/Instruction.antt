-- Decoding of an instruction. Assumes nothing.
use Rattle.std.specs.Prelude.{ℕ, Bool, true, ◌&&◌, List, [], ◌∷◌, leb, ltb, eqb, Option, None, Some}
use Rattle.std.proofs.Math.ListN.{get_elem?}
use Rattle.model.specs.Result.{Fit, misfit, Ok, ◌>>=◌, check, found}
use Rattle.model.specs.Expression.{most_count}
use Rattle.model.specs.declared.Instruction.{Instruction}
use Rattle.model.specs.declared.Instruction.TheVariants.{Set, Add, AddImmediate, Subtract, Load, Store, Jump, JumpLess, JumpEqual, Return, Mask, Shift}

-- "Sixteen registers, 0 to 15"
abbrev pub register : ℕ → Bool
register r = ltb r 16

-- "Unused fields are zero."
abbrev pub unused : ℕ → Bool
unused f = eqb f 0

-- "an i above 31 counts as a bad instruction (8)"
abbrev pub shift_count : ℕ → Bool
shift_count i = leb i most_count

-- the instruction, if its fields are as they should be
unfoldable pub provided : Bool → Instruction → Fit Instruction
provided fields instruction = do
  _ ← check fields misfit
  Ok instruction

-- for each operation, in the order of their numbers: the instruction with the fields d, a, b and the immediate i
abbrev pub operations : List (ℕ → ℕ → ℕ → ℕ → Fit Instruction)
operations =
    (λ d a b i. provided (register d && unused a && unused b) (Set d i))
    ∷ (λ d a b i. provided (register d && register a && register b && unused i) (Add d a b))
    ∷ (λ d a b i. provided (register d && register a && unused b) (AddImmediate d a i))
    ∷ (λ d a b i. provided (register d && register a && register b && unused i) (Subtract d a b))
    ∷ (λ d a b i. provided (register d && register a && unused b) (Load d a i))
    ∷ (λ d a b i. provided (register d && register a && unused b) (Store d a i))
    ∷ (λ d a b i. provided (unused d && unused a && unused b) (Jump i))
    ∷ (λ d a b i. provided (unused d && register a && register b) (JumpLess a b i))
    ∷ (λ d a b i. provided (unused d && register a && register b) (JumpEqual a b i))
    ∷ (λ d a b i. provided (unused d && unused a && unused b && unused i) Return)
    ∷ (λ d a b i. provided (register d && register a && unused b) (Mask d a i))
    ∷ (λ d a b i. provided (register d && register a && unused b && shift_count i) (Shift d a i))
    ∷ []

-- "unknown op, register above 15, unused field not zero", and a count above 31, give none
unfoldable pub decode : (op d a b i : ℕ) → Fit Instruction
decode op d a b i = do
  operation ← found (get_elem? operations op) misfit
  operation d a b i

-- where the instruction may jump
unfoldable pub target_of : Instruction → Option ℕ
target_of (Set d i) = None
target_of (Add d a b) = None
target_of (AddImmediate d a i) = None
target_of (Subtract d a b) = None
target_of (Load d a i) = None
target_of (Store d a i) = None
target_of (Jump i) = Some i
target_of (JumpLess a b i) = Some i
target_of (JumpEqual a b i) = Some i
target_of Return = None
target_of (Mask d a i) = None
target_of (Shift d a i) = None

-- "target n or more" fails
unfoldable pub target_inside : (n : ℕ) → Instruction → Bool
target_inside n instruction = elim (target_of instruction) [ None ↦ true | Some t ↦ ltb t n ]
