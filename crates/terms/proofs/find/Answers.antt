use mathlib.Core.Path.{sym, ◌∙◌}
use Rattle.terms.proofs.NewNodes.{find_hinted}
use Rattle.terms.proofs.find.Goals as goal

pub returns-then-repeats : goal.returns-then-repeats
returns-then-repeats c = find_hinted c.if-hinted-top.true (sym c.if-repeats.true ∙ c.repeats.ensures)
