use mathlib.Core.Path.{sym, ◌∙◌}
use Rattle.former.proofs.Instructions.{longer_routines}
use Rattle.loader.proofs.find_answer.Goals as goal

pub returns-clause-former : goal.returns-clause-former
returns-clause-former c = λ short. c.find_answer.ensures ∙ sym ((longer_routines _).kept short).finding
