use Rattle.blocks.proofs.Starting.{Passed}
use Rattle.blocks.proofs.assume.Given as goal

abbrev pub invariant-loop : goal.invariant-loop
invariant-loop l = Passed l.initial.ws l.ws l.bytes l.initial.path l.path l.fn.end l.source l.fn.condition l.counter l.at
