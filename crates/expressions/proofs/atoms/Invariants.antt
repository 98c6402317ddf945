use Rattle.expressions.proofs.ReadingLaws.{Going}
use Rattle.expressions.proofs.atoms.Given as goal

abbrev pub invariant-loop : goal.invariant-loop
invariant-loop l = Going l.bytes l.end l.limit l.count l.at l.counter l.next
