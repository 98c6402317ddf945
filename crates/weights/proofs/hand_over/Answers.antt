use mathlib.Core.Path.{refl}
use native.Mathlib.Omega.{arith}
use Rattle.weights.proofs.Settling.{settle_shape, settled_none, settled_alone, settled_paired}
use Rattle.weights.proofs.hand_over.Goals as goal

pub returns-then-not-weighs : goal.returns-then-not-weighs
returns-then-not-weighs c = settled_none c.weighs.ensures c.if-not-weighs.true

pub partner-earlier-requires : goal.partner-earlier-requires
partner-earlier-requires c = settle_shape c.requires

pub returns-in-Some : goal.returns-in-Some
returns-in-Some c = settled_paired c.weighs.ensures c.if-not-weighs.false c.value-w.ensures (omega arith) c.partner-earlier.ensures refl c.set_value.ensures c.in-Some.is c.value.ensures (rw (← c.add.ensures) c.set_value-in-Some.ensures)

pub returns-in-None : goal.returns-in-None
returns-in-None c = settled_alone c.weighs.ensures c.if-not-weighs.false c.value-w.ensures (omega arith) c.partner-earlier.ensures refl c.set_value.ensures c.in-None.is
