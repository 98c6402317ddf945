use Rattle.routine.proofs.Codes.{Checking}
use Rattle.routine.proofs.instructions.check_code.Given as goal

abbrev pub invariant-loop-index : goal.invariant-loop-index
invariant-loop-index l = Checking l.routine.bytes.now l.routine.header l.index
