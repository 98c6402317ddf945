use Rattle.claims.proofs.PartLaws.{not_pair, pair_differs, pair_is}
use Rattle.claims.proofs.parts.operands.Goals as goal

pub returns-in_default-clause-is : goal.returns-in_default-clause-is
returns-in_default-clause-is c = not_pair c.requires c.view.ensures _ c.in_default.not-Pair

pub returns-then-eq-clause-is : goal.returns-then-eq-clause-is
returns-then-eq-clause-is c = pair_is c.requires c.in-Pair.ensures _ c.eq.ensures c.if-eq.true

pub returns-else-eq-clause-is : goal.returns-else-eq-clause-is
returns-else-eq-clause-is c = pair_differs c.requires c.in-Pair.ensures _ c.eq.ensures c.if-eq.false
