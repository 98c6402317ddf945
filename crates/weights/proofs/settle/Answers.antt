use native.Mathlib.Omega.{arith}
use Rattle.weights.proofs.Settling.{settled_none, settled_more, settled_rest, settleable_rest}
use Rattle.weights.proofs.settle.Goals as goal

pub settle_weights-requires : goal.settle_weights-requires
settle_weights-requires c = settleable_rest c.loop-k.auto.k (omega (arith, c.loop-k-test.true)) c.loop-k.invariant c.requires

pub returns-then-weighs : goal.returns-then-weighs
returns-then-weighs c = settled_rest c.loop-k.auto.k (omega (arith, c.loop-k-test.true)) c.loop-k.invariant c.settle_weights.ensures

pub loop-k-preserved : goal.loop-k-preserved
loop-k-preserved c = settled_more c.loop-k.invariant _ c.loop-k.auto.k (omega (arith, c.loop-k-test.true)) (settled_none c.weighs.ensures c.if-weighs.false)
