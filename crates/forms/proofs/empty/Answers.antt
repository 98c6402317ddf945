use native.Mathlib.Omega.{arith}
use Rattle.forms.proofs.Laws.{emptied_none, emptied_more}
use Rattle.forms.proofs.empty.Goals as goal

pub loop-coefficient-init : goal.loop-coefficient-init
loop-coefficient-init c = emptied_none _ _

pub loop-coefficient-preserved : goal.loop-coefficient-preserved
loop-coefficient-preserved c = emptied_more _ _ c.loop-coefficient.invariant (omega arith) c.take.ensures.value c.take.ensures.after
