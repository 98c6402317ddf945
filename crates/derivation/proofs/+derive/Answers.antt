use Rattle.std.proofs.Common.{refl}
use Rattle.model.proofs.Results.{stopped}
use native.Mathlib.Omega.{arith}
use Rattle.derivation.proofs.DerivationLaws.{too_deep, rule_refused, rule_applied, all_derived, premise_asks, premise_refused, premise_derived}
use Rattle.derivation.proofs.+derive.Goals as goal

pub returns-then-levels-eq0 : goal.returns-then-levels-eq0
returns-then-levels-eq0 t c = too_deep c.requires (omega arith)

pub returns-in_err-next : goal.returns-in_err-next
returns-in_err-next t c = rw (stopped _ _ c.from_residual.ensures.1) (rule_refused c.requires (omega arith) (rw c.new-plan.ensures.top_is at c.in_err-next.ensures))

pub loop-premise-init : goal.loop-premise-init
loop-premise-init t c = rule_applied c.requires (omega arith) (rw c.new-plan.ensures.top_is at c.in_ok-next.ensures) c.apply.auto.ws c.premises-premise-items.ensures

pub derive-requires : goal.derive-requires
derive-requires t c = (omega (arith, c.decreases), premise_asks c.loop-premise.invariant c.loop-premise-test.true _)

pub returns-in_err-reached : goal.returns-in_err-reached
returns-in_err-reached t c = rw (stopped _ _ c.from_residual-in_err-reached.ensures.1) (premise_refused c.requires (omega arith) (rw c.new-plan.ensures.top_is at c.in_ok-next.ensures) c.premises-premise-items.ensures refl c.loop-premise.invariant c.loop-premise-test.true _ c.in_err-reached.ensures)

pub loop-premise-preserved : goal.loop-premise-preserved
loop-premise-preserved t c = premise_derived c.loop-premise.invariant c.loop-premise-test.true _ c.in_ok-reached.ensures c.derive.auto.ws

pub returns : goal.returns
returns t c = all_derived c.requires (omega arith) (rw c.new-plan.ensures.top_is at c.in_ok-next.ensures) c.premises-premise-items.ensures refl c.loop-premise.invariant c.loop-premise-test.false
