-- When an instruction is formed. Assumes nothing.
use Rattle.std.specs.Prelude.{ℕ, ◌^◌, ◌≤◌, ◌<◌}
use Rattle.model.specs.Expression.{register_count, most_count}
use Rattle.model.specs.declared.Instruction.{Instruction}
use Rattle.model.specs.declared.Instruction.TheVariants.{Set, Add, AddImmediate, Subtract, Load, Store, Jump, JumpLess, JumpEqual, Return, Mask, Shift}

-- the registers are among the sixteen, the immediate is a word, a jump's target is below n, and a shift's count is at most 31
abbrev pub Formed : (n : ℕ) → Instruction → Type 0
Formed n (Set d i) = (d < register_count) × (i < 2 ^ 32)
Formed n (Add d a b) = (d < register_count) × (a < register_count) × (b < register_count)
Formed n (AddImmediate d a i) = (d < register_count) × (a < register_count) × (i < 2 ^ 32)
Formed n (Subtract d a b) = (d < register_count) × (a < register_count) × (b < register_count)
Formed n (Load d a i) = (d < register_count) × (a < register_count) × (i < 2 ^ 32)
Formed n (Store d a i) = (d < register_count) × (a < register_count) × (i < 2 ^ 32)
Formed n (Jump i) = i < n
Formed n (JumpLess a b i) = (a < register_count) × (b < register_count) × (i < n)
Formed n (JumpEqual a b i) = (a < register_count) × (b < register_count) × (i < n)
Formed n Return = Unit
Formed n (Mask d a i) = (d < register_count) × (a < register_count) × (i < 2 ^ 32)
Formed n (Shift d a i) = (d < register_count) × (a < register_count) × (i ≤ most_count)
