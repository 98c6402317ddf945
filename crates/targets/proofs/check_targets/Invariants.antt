use Rattle.targets.proofs.Jumps.{Targeting}
use Rattle.targets.proofs.check_targets.Given as goal

abbrev pub invariant-loop-index : goal.invariant-loop-index
invariant-loop-index l = Targeting l.routine.bytes.now l.routine.header l.annotations l.index
