use native.Mathlib.Omega.{arith}
use Rattle.expressions.proofs.ScanningLaws as laws
use Rattle.expressions.proofs.scanning.variable.Goals as goal

pub returns-then-end-at-lt3-clause-scanned : goal.returns-then-end-at-lt3-clause-scanned
returns-then-end-at-lt3-clause-scanned c = laws.short_variable _ _ _ _ _ c.requires.0 c.if-end-at-lt3.true

pub returns-then-limit-half-clause-scanned : goal.returns-then-limit-half-clause-scanned
returns-then-limit-half-clause-scanned c = laws.large_variable _ _ _ _ _ c.if-end-at-lt3.false (omega arith)

pub returns-clause-scanned : goal.returns-clause-scanned
returns-clause-scanned c = laws.whole_variable _ _ _ _ _ c.if-end-at-lt3.false (omega arith)
