use Rattle.pcc_run.proofs.Laws as laws
use Rattle.pcc_run.proofs.run_on.Goals as goal

pub returns : goal.returns
returns c =
    laws.ran _ _ _ _ _ _ _ _ _
    c.run.ensures.outcome
    c.words.ensures
    c.requires.registers_len
    c.words-2.ensures
    c.requires.memory_len
    c.budget.ensures
