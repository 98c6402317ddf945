use native.Mathlib.Omega.{arith}
use Rattle.expressions.proofs.ScanningLaws as laws
use Rattle.expressions.proofs.scanning.count.Goals as goal

pub returns-then-end-place-clause-scanned : goal.returns-then-end-place-clause-scanned
returns-then-end-place-clause-scanned c = laws.short_count _ _ _ _ c.if-end-place.true

pub returns-then-from-gt-MOST_COUNT-clause-scanned : goal.returns-then-from-gt-MOST_COUNT-clause-scanned
returns-then-from-gt-MOST_COUNT-clause-scanned c = laws.large_count _ _ _ _ c.if-end-place.false (omega arith)

pub returns-clause-scanned : goal.returns-clause-scanned
returns-clause-scanned c = laws.whole_count _ _ _ _ c.if-end-place.false (omega arith)
