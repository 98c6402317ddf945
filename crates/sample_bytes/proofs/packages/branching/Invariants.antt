use Rattle.sample_bytes.specs.Buffer.{Same}
use Rattle.sample_bytes.proofs.packages.branching.Given as goal

abbrev pub invariant-loop-branch : goal.invariant-loop-branch
invariant-loop-branch l = Same l.fn.writer.out l.writer.out
