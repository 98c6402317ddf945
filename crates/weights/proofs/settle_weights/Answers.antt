use native.Mathlib.Omega.{arith}
use Rattle.weights.proofs.Settling.{settled_more}
use Rattle.weights.proofs.settle_weights.Goals as goal

pub loop-k-preserved : goal.loop-k-preserved
loop-k-preserved c = settled_more c.loop-k.invariant _ c.loop-k.auto.k (omega arith) c.hand_over-zero.ensures
