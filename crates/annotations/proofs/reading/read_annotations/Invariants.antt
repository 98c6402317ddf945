use Rattle.lists.specs.Lists.{listed}
use Rattle.annotations.proofs.Tables.{Noting}
use Rattle.annotations.proofs.reading.read_annotations.Given as goal

abbrev pub invariant-loop : goal.invariant-loop
invariant-loop l = Noting l.routine.bytes.now l.routine.header (listed l.annotations) l.lowest l.at l.counter
