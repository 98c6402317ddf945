-- What a start file's bytes stand for. Assumes nothing.
use Rattle.std.proofs.Common.{◌≡◌, ℕ, ◌≤◌, ◌<◌, List, length, ap, ◌∙◌}
use borrow.Author.Tests.{lt-ltb, le-ltb}
use Rattle.model.specs.Word.{le32}
use Rattle.model.specs.Runner.{Run, run_of}
use Rattle.console.specs.Words.{words_from}
use Rattle.pcc_run.specs.Start.{memory_at, budget_in, register_words, memory_words, registers_in, memory_in}

pub no_budget : (start : List ℕ) → length start < 4 → 0 ≡ budget_in start
unfolding budget_in
no_budget start h = rw (lt-ltb (length start) 4 h, budget_in)

pub some_budget : (start : List ℕ) (r : ℕ) → 4 ≤ length start → r ≡ le32 start 0 → r ≡ budget_in start
unfolding budget_in
some_budget start r h e = rw (le-ltb (length start) 4 h, budget_in) e

-- the run on the words that were read
pub ran : (policy routine start registers memory : List ℕ) (budget m n : ℕ) (r : Run)
    → r ≡ run_of policy routine registers memory budget
    → registers ≡ words_from start 1 m → m ≡ register_words start
    → memory ≡ words_from start memory_at n → n ≡ memory_words start
    → budget ≡ budget_in start
    → r.outcome ≡ (run_of policy routine (registers_in start) (memory_in start) (budget_in start)).outcome
unfolding registers_in memory_in
ran policy routine start registers memory budget m n r e p q u v b =
    ap (λ (x : Run). x.outcome) e
    ∙ (λ j. (run_of policy routine ((p ∙ ap (words_from start 1) q) j) ((u ∙ ap (words_from start memory_at) v) j) (b j)).outcome)
