use Rattle.derivation.proofs.DerivationLaws.{Running}
use Rattle.derivation.proofs.+derive.Given as goal

abbrev pub invariant-loop-premise : goal.invariant-loop-premise
invariant-loop-premise l = Running l.grounds.bytes.now l.grounds.regions.now l.initial.ws l.ws l.scope l.levels l.above l.premise-items l.next l.premise-index l.reached

abbrev pub decreases-derive : goal.decreases-derive
decreases-derive l = l.levels
