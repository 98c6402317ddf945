use native.Mathlib.Omega.{arith}
use Rattle.runs.proofs.Runs as runs
use Rattle.runs.proofs.run_code.Goals as goal

pub returns-then-code-counter : goal.returns-then-code-counter
returns-then-code-counter c = rw c.stopped.ensures (runs.past _ _ _ _ _ _ _ _ _ c.loop-steps.invariant c.loop-steps-test.true c.if-code-counter.true)

pub execute-requires : goal.execute-requires
execute-requires c = runs.ready _ _ _ _ _ _ _ _ _ c.loop-steps.invariant c.loop-steps-test.true c.if-code-counter.false _

pub loop-steps-preserved : goal.loop-steps-preserved
loop-steps-preserved c = runs.further _ _ _ _ _ _ _ _ _ c.loop-steps.invariant c.loop-steps-test.true c.if-code-counter.false _ _ _ _ c.execute.ensures _ c.in-Next.is c.execute.auto.registers c.execute.auto.memory

pub returns-in-Returned : goal.returns-in-Returned
returns-in-Returned c = rw c.stopped-in-Returned.ensures (runs.returned _ _ _ _ _ _ _ _ _ c.loop-steps.invariant c.loop-steps-test.true c.if-code-counter.false _ _ _ _ c.execute.ensures c.in-Returned.is)

pub returns-in-WithoutRight : goal.returns-in-WithoutRight
returns-in-WithoutRight c = rw c.stopped-in-WithoutRight.ensures (runs.refused _ _ _ _ _ _ _ _ _ c.loop-steps.invariant c.loop-steps-test.true c.if-code-counter.false _ _ _ _ c.execute.ensures c.in-WithoutRight.is)

pub returns : goal.returns
returns c = rw c.stopped-2.ensures (runs.spent _ _ _ _ _ _ _ _ _ c.loop-steps.invariant (omega arith))
