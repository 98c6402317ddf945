use native.Mathlib.Omega.{arith}
use Rattle.leaf_reader.proofs.Reading.{constant_missing, constant_found}
use Rattle.leaf_reader.proofs.read_constant.Goals as goal

pub returns-then-end-at-lt5-clause-answer : goal.returns-then-end-at-lt5-clause-answer
returns-then-end-at-lt5-clause-answer c = λ _ _ o. constant_missing _ _ _ _ o _ _ (omega arith)

pub returns-clause-answer : goal.returns-clause-answer
returns-clause-answer c = λ _ _ o. constant_found _ _ _ _ o _ _ (omega arith) c.word.ensures c.put_constant.ensures.is
