use Rattle.machine.proofs.Steps as steps
use Rattle.machine.proofs.load.Goals as goal

pub returns-then-readable : goal.returns-then-readable
returns-then-readable c = steps.loads _ _ _ _ _ _ _ _ _ c.word.ensures c.add-at.ensures _ c.readable.ensures c.if-readable.true _ _ c.assign.ensures

pub returns : goal.returns
returns c = steps.refuses_load _ _ _ _ _ _ _ _ _ c.word.ensures c.add-at.ensures _ c.readable.ensures c.if-readable.false
