use mathlib.Core.Logic.{inl, inr}
use native.Mathlib.Omega.{arith}
use Rattle.walks.proofs.visit.Goals as goal

pub returns-then-index-count : goal.returns-then-index-count
returns-then-index-count c = inl (c.if-index-count.true, c.refused.ensures)

pub returns-then-visits-eq0 : goal.returns-then-visits-eq0
returns-then-visits-eq0 c = inr (omega (arith, c.requires, c.if-index-count.false), c.if-visits-eq0.true, c.refused-then-visits-eq0.ensures)

pub returns : goal.returns
returns c = (c.fetch.ensures, omega (arith, c.requires, c.if-index-count.false), omega (arith, c.if-visits-eq0.false))
