use Rattle.machine.proofs.Steps as steps
use Rattle.machine.proofs.store.Goals as goal

pub returns-then-writable : goal.returns-then-writable
returns-then-writable c = steps.stores _ _ _ _ _ _ _ _ _ c.word.ensures c.add-at.ensures _ c.writable.ensures c.if-writable.true _ c.word-w.ensures _ _ c.put.ensures

pub returns : goal.returns
returns c = steps.refuses_store _ _ _ _ _ _ _ _ _ c.word.ensures c.add-at.ensures _ c.writable.ensures c.if-writable.false
