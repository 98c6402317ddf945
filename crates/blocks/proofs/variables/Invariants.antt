use Rattle.blocks.specs.Starting.{Variables}
use Rattle.blocks.proofs.variables.Given as goal

abbrev pub invariant-loop-v : goal.invariant-loop-v
invariant-loop-v l = Variables l.initial.ws l.ws l.v
