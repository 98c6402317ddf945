use Rattle.rights.proofs.Rights.{unsearched, protected, further, elsewhere, searched}
use Rattle.rights.proofs.writable.Goals as goal
use Rattle.rights.proofs.writable.Goals.{then-covers+else-not-grants, else-covers}

pub loop-region-init : goal.loop-region-init
loop-region-init c = unsearched c.args.regions.now c.args.w

pub returns-then-not-grants : goal.returns-then-not-grants
returns-then-not-grants c = protected c.loop-region.invariant _ c.loop-region-test.true (c.if-covers.ensures) c.args.memory (c.if-not-grants.ensures)

pub loop-region-preserved : goal.loop-region-preserved
loop-region-preserved c =
    elim c.if-covers.branch [
      | then-covers+else-not-grants w ↦ rw w.given-is (further c.loop-region.invariant _ c.loop-region-test.true w.if-covers.ensures w.if-not-grants.ensures)
      | else-covers w ↦ rw w.given-is (elsewhere c.loop-region.invariant _ c.loop-region-test.true w.if-covers.ensures)
    ]

pub returns : goal.returns
returns c = searched c.loop-region.invariant c.args.memory c.loop-region-test.false
