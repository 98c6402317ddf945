use Rattle.goals.proofs.Settling.{Passed}
use Rattle.goals.proofs.atoms.Given as goal

abbrev pub invariant-loop : goal.invariant-loop
invariant-loop l = Passed l.initial.ws l.ws l.bytes l.grounds.bytes.now l.grounds.regions.now l.path l.initial.after l.after l.fn.end l.fn.condition l.counter l.at
