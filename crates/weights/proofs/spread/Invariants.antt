use Rattle.weights.specs.Weights.{Passed}
use Rattle.weights.proofs.spread.Given as goal

abbrev pub invariant-loop-k : goal.invariant-loop-k
invariant-loop-k l = Passed l.initial.ws l.ws l.nodes l.k
