use native.Mathlib.Omega.{arith}
use Rattle.weights.proofs.Weights.{weighable_more, passed_more}
use Rattle.weights.proofs.spread.Goals as goal

pub pass-requires : goal.pass-requires
pass-requires c = weighable_more c.loop-k.invariant c.requires c.loop-k.auto.k _ (omega arith)

pub loop-k-preserved : goal.loop-k-preserved
loop-k-preserved c = passed_more c.loop-k.invariant _ c.loop-k.auto.k (omega arith) c.pass.ensures
