use native.Mathlib.Omega.{arith}
use Rattle.term_walks.proofs.Walks.{reduced_constant, reduced_variable, reduced_pair, reduced_shift}
use Rattle.term_walks.proofs.+reduced.Goals as goal

pub combined-returns-in-Constant-clause-is : goal.combined-returns-in-Constant-clause-is
combined-returns-in-Constant-clause-is t c = reduced_constant c.requires.formed c.in-Constant.ensures (omega arith)

pub combined-returns-in-Variable-clause-is : goal.combined-returns-in-Variable-clause-is
combined-returns-in-Variable-clause-is t c = reduced_variable c.requires.formed c.in-Variable.ensures

pub combined-returns-in-Pair-clause-is : goal.combined-returns-in-Pair-clause-is
combined-returns-in-Pair-clause-is t c = reduced_pair c.requires.formed c.in-Pair.ensures c.reduced-first.ensures.is c.reduced.ensures.is c.applied.ensures

pub combined-returns-in-Shift-clause-is : goal.combined-returns-in-Shift-clause-is
combined-returns-in-Shift-clause-is t c = reduced_shift c.requires.formed c.in-Shift.ensures c.reduced-in-Shift.ensures.is c.shift.ensures
