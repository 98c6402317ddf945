use mathlib.Core.Path.{◌∙◌}
use native.Mathlib.Omega.{arith}
use Rattle.leaf_reader.proofs.Reading.{variable_missing, variable_fault, variable_found}
use Rattle.leaf_reader.proofs.Leaves.{variable_register, variable_new}
use Rattle.leaf_reader.proofs.read_variable.Goals as goal

pub returns-then-source-at-lt3-clause-answer : goal.returns-then-source-at-lt3-clause-answer
returns-then-source-at-lt3-clause-answer c = λ o. variable_missing _ _ _ _ o _ _ (omega arith)

pub returns-then-source-v-clause-answer : goal.returns-then-source-v-clause-answer
returns-then-source-v-clause-answer c = λ o. variable_fault _ _ _ _ o _ _ (omega arith) c.half-v.ensures.0 (omega arith)

pub returns-then-v-lt-REGISTERS-clause-answer : goal.returns-then-v-lt-REGISTERS-clause-answer
returns-then-v-lt-REGISTERS-clause-answer c = λ o. variable_found _ _ _ _ o _ _ (omega arith) c.half-v.ensures.0 (omega arith) (variable_register _ _ _ (omega arith))

pub returns-clause-answer : goal.returns-clause-answer
returns-clause-answer c = λ o. variable_found _ _ _ _ o _ _ (omega arith) c.half-v.ensures.0 (omega arith) (c.put_variable.ensures.is ∙ variable_new _ _ _ (omega arith))
