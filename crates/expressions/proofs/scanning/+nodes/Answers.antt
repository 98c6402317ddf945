use native.Mathlib.Omega.{arith}
use Rattle.model.proofs.Results.{stopped}
use Rattle.expressions.proofs.ScanningLaws as laws
use Rattle.expressions.proofs.scanning.+nodes.Goals as goal

pub returns-then-end-at-clause-scanned : goal.returns-then-end-at-clause-scanned
returns-then-end-at-clause-scanned t c = laws.at_end _ _ _ _ _ c.if-end-at.true

pub returns-then-left-eq0-clause-scanned : goal.returns-then-left-eq0-clause-scanned
returns-then-left-eq0-clause-scanned t c = laws.no_node _ _ _ _ _ c.if-end-at.false c.if-left-eq0.true

pub returns-then-end-at-lt5-clause-scanned : goal.returns-then-end-at-lt5-clause-scanned
returns-then-end-at-lt5-clause-scanned t c = laws.short_constant _ _ _ _ _ c.if-end-at.false c.if-left-eq0.false c.in-0.is c.if-end-at-lt5.true

pub returns-else-end-at-lt5-clause-scanned : goal.returns-else-end-at-lt5-clause-scanned
returns-else-end-at-lt5-clause-scanned t c = laws.whole_constant _ _ _ _ _ c.if-end-at.false c.if-left-eq0.false c.in-0.is c.if-end-at-lt5.false

pub returns-in-1-clause-scanned : goal.returns-in-1-clause-scanned
returns-in-1-clause-scanned t c = laws.variable_node _ _ _ _ _ c.if-end-at.false c.if-left-eq0.false c.in-1.is _ c.variable.ensures.scanned

pub returns-in_err-first-in-2-to-4-clause-scanned : goal.returns-in_err-first-in-2-to-4-clause-scanned
returns-in_err-first-in-2-to-4-clause-scanned t c =
    rw (stopped _ _ c.from_residual-in_err-first-in-2-to-4.ensures.1)
    (laws.first_stops _ _ _ _ _ c.if-end-at.false c.if-left-eq0.false _ (laws.pair_opens _ _ _ _ _ (λ e. omega arith) (λ e. omega arith) (omega arith) _ c.in_err-first-in-2-to-4.ensures.scanned))

pub returns-in_ok-first-in-2-to-4-clause-scanned : goal.returns-in_ok-first-in-2-to-4-clause-scanned
returns-in_ok-first-in-2-to-4-clause-scanned t c =
    laws.both _ _ _ _ _ c.if-end-at.false c.if-left-eq0.false _ (omega (arith, c.in_ok-first-in-2-to-4.ensures.within))
    (laws.pair_opens _ _ _ _ _ (λ e. omega arith) (λ e. omega arith) (omega arith) _ c.in_ok-first-in-2-to-4.ensures.scanned) _ c.nodes-in-2-to-4-2.ensures.scanned

pub returns-in_err-counted-in-5-clause-scanned : goal.returns-in_err-counted-in-5-clause-scanned
returns-in_err-counted-in-5-clause-scanned t c =
    rw (stopped _ _ c.from_residual.ensures.1)
    (laws.first_stops _ _ _ _ _ c.if-end-at.false c.if-left-eq0.false _ (laws.count_opens _ _ _ _ _ c.in-5.is _ c.in_err-counted-in-5.ensures.scanned))

pub returns-in_ok-counted-in-5-clause-scanned : goal.returns-in_ok-counted-in-5-clause-scanned
returns-in_ok-counted-in-5-clause-scanned t c =
    laws.both _ _ _ _ _ c.if-end-at.false c.if-left-eq0.false _ c.in_ok-counted-in-5.ensures.within.1
    (laws.count_opens _ _ _ _ _ c.in-5.is _ c.in_ok-counted-in-5.ensures.scanned) _ c.nodes.ensures.scanned

pub returns-in_default-clause-scanned : goal.returns-in_default-clause-scanned
returns-in_default-clause-scanned t c = laws.no_tag _ _ _ _ _ c.if-end-at.false c.if-left-eq0.false (omega arith) (λ e. omega arith)
