use mathlib.Core.Path.{sym, ap, ◌∙◌}
use lib.ListN.{get_elem?}
use Rattle.model.specs.Kept.{Kept}
use Rattle.model.specs.Runner.{Run}
use Rattle.model.proofs.Kept.{kept}
use Rattle.former.proofs.Instructions.{longer_routines}
use Rattle.loader.proofs.run.Goals as goal

pub returns-clause-kept : goal.returns-clause-kept
unfolding Kept
returns-clause-kept c = λ word protected. ap (λ (o : Run). get_elem? o.memory word) c.run.ensures.is ∙ kept _ _ _ _ _ word protected

pub returns-clause-former : goal.returns-clause-former
returns-clause-former c = λ short. c.run.ensures.is ∙ sym (((longer_routines _).kept short).run _ _ _ _)
