use Rattle.sample_bytes.specs.Buffer.{Same}
use Rattle.sample_bytes.proofs.writing.Writer.all.Given as goal

abbrev pub invariant-loop : goal.invariant-loop
invariant-loop l = Same l.fn.self.out l.self.out

abbrev pub invariant-loop-byte : goal.invariant-loop-byte
invariant-loop-byte l = Same l.fn.self.out l.self.out
