use Rattle.routine.proofs.Codes.{Reading}
use Rattle.routine.proofs.instructions.read_code.Given as goal

abbrev pub invariant-loop-index : goal.invariant-loop-index
invariant-loop-index l = Reading l.routine.bytes.now l.routine.header l.lines l.index
