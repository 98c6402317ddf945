use native.Mathlib.Omega.{arith}
use Rattle.term_walks.proofs.Walks.{reduced_constant, reduced_variable, reduced_pair, reduced_shift}
use Rattle.term_walks.proofs.+walked.Goals as goal

pub returns-in-Constant : goal.returns-in-Constant
returns-in-Constant t c = reduced_constant c.requires c.in-Constant.ensures (omega arith)

pub returns-in-Variable : goal.returns-in-Variable
returns-in-Variable t c = reduced_variable c.requires c.in-Variable.ensures

pub returns-in_ok-b-in-Pair : goal.returns-in_ok-b-in-Pair
returns-in_ok-b-in-Pair t c = reduced_pair c.requires c.in-Pair.ensures c.in_ok-a-in-Pair.ensures c.in_ok-b-in-Pair.ensures c.applied.ensures

pub returns-in_ok-a-in-Shift : goal.returns-in_ok-a-in-Shift
returns-in_ok-a-in-Shift t c = reduced_shift c.requires c.in-Shift.ensures c.in_ok-a-in-Shift.ensures c.shift.ensures
