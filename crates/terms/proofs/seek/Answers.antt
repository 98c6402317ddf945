use mathlib.Core.Path.{sym, ◌∙◌}
use native.Mathlib.Omega.{arith}
use Rattle.terms.proofs.NewNodes.{find_hinted}
use Rattle.terms.proofs.seek.Goals as goal

pub returns-then-repeats-clause-twinned : goal.returns-then-repeats-clause-twinned
returns-then-repeats-clause-twinned c = find_hinted (omega (arith, c.if-says-top.false, c.if-says-eq0.false)) (sym c.if-repeats.true ∙ c.repeats.ensures)
