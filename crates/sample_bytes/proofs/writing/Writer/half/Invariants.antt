use Rattle.sample_bytes.specs.Buffer.{Same}
use Rattle.sample_bytes.proofs.writing.Writer.half.Given as goal

abbrev pub invariant-loop-byte : goal.invariant-loop-byte
invariant-loop-byte l = Same l.fn.self.out l.self.out
