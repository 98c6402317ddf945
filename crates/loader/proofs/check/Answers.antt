use mathlib.Core.Path.{sym, ◌∙◌}
use Rattle.former.proofs.Instructions.{longer_routines}
use Rattle.loader.proofs.check.Goals as goal

pub returns-clause-former : goal.returns-clause-former
returns-clause-former c = λ short. c.check.ensures.verdict ∙ sym (((longer_routines _).kept short).checked _ _)
