use Rattle.weights.specs.Weights.{Settled}
use Rattle.weights.proofs.settle_weights.Given as goal

abbrev pub invariant-loop-k : goal.invariant-loop-k
invariant-loop-k l = Settled l.initial.ws l.ws l.nodes l.k l.zero
