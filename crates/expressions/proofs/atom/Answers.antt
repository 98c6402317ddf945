use mathlib.Core.Path.{◌≡◌}
use lib.ListN.{get_or, get_elem?}
use Rattle.model.specs.Result.{found}
use Rattle.model.specs.declared.ReadError.TheVariants.{Fault}
use Rattle.model.specs.Expression.{comparisons}
use Rattle.model.proofs.Results.{stopped, mapped}
use Rattle.expressions.proofs.ReadingLaws as laws
use Rattle.expressions.proofs.atom.Goals as goal
use Rattle.expressions.proofs.atom.Goals.{After-map_err}

-- the comparison, or a fault at its tag
kind_read : (c : After-map_err) → c.map_err.result ≡ found (get_elem? comparisons (get_or c.args.bytes.now c.args.at 0)) (Fault c.args.at)
kind_read c = laws.fault_found _ _ _ (mapped _ _ _ _ c.try_from.ensures c.map_err.ensures.cases (λ e x p. cc))

pub returns-then-end-at-clause-ends : goal.returns-then-end-at-clause-ends
returns-then-end-at-clause-ends c = laws.atom_missing _ _ _ _ c.if-end-at.true

pub returns-in_err-map_err-clause-ends : goal.returns-in_err-map_err-clause-ends
returns-in_err-map_err-clause-ends c =
    rw (stopped _ _ c.from_residual.ensures.1)
    (laws.atom_tag _ _ _ _ c.if-end-at.false (kind_read (goal.at.returns-in_err-map_err-clause-ends c).After-map_err) _ c.in_err-map_err.was)

pub returns-in_err-next-clause-ends : goal.returns-in_err-next-clause-ends
returns-in_err-next-clause-ends c =
    rw (stopped _ _ c.from_residual-in_err-next.ensures.1)
    (laws.atom_stops _ _ _ _ c.if-end-at.false (kind_read (goal.at.returns-in_err-next-clause-ends c).After-map_err) _ c.in_ok-map_err.was _ c.in_err-next.ensures.ends)

pub returns-clause-ends : goal.returns-clause-ends
returns-clause-ends c =
    laws.atom_both _ _ _ _ c.if-end-at.false (kind_read (goal.at.returns-clause-ends c).After-map_err) _ c.in_ok-map_err.was _ c.in_ok-next.ensures.ends _ c.expression-2.ensures.ends
