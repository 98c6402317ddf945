use mathlib.Core.Path.{◌∙◌}
use Rattle.term_reader.proofs.Building.{expression_read, answer_without_left}
use Rattle.term_reader.proofs.expression.Goals as goal

pub returns-clause-answer : goal.returns-clause-answer
returns-clause-answer c = answer_without_left _ _ ∙ expression_read _ _ _ _ _ c.read.ensures.answer
