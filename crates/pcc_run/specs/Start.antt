-- "start.bin (budget, sixteen registers, then memory, 4 bytes each; a part word is dropped, a missing budget is 0)". Assumes nothing.
use Rattle.std.specs.Prelude.{ℕ, ◌+◌, ◌*◌, ◌-◌, ◌/◌, min, true, false, List, ltb, length}
use Rattle.model.specs.Word.{le32}
use Rattle.model.specs.Expression.{register_count}
use Rattle.model.specs.Policy.{most_memory}
use Rattle.console.specs.Words.{words_from}

-- where the memory begins, in words: after the budget and the registers
abbrev pub memory_at : ℕ
memory_at = 1 + register_count

-- the bytes that can decide the answer, and a word more
abbrev pub most_start : ℕ
most_start = 4 * (memory_at + most_memory + 1)

unfoldable pub budget_in : List ℕ → ℕ
budget_in start = elim (ltb (length start) 4) [ true ↦ 0 | false ↦ le32 start 0 ]

-- how many words it holds for registers, and for memory
abbrev pub register_words : List ℕ → ℕ
register_words start = min (length start / 4 - 1) register_count

abbrev pub memory_words : List ℕ → ℕ
memory_words start = length start / 4 - memory_at

unfoldable pub registers_in : List ℕ → List ℕ
registers_in start = words_from start 1 (register_words start)

unfoldable pub memory_in : List ℕ → List ℕ
memory_in start = words_from start memory_at (memory_words start)
