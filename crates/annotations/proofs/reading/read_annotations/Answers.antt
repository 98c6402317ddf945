use native.Mathlib.Omega.{arith}
use mathlib.Core.Path.{refl}
use Rattle.model.proofs.Results.{stopped}
use Rattle.annotations.proofs.Tables.{note_start, note_more, note_refused, note_spare, note_done}
use Rattle.annotations.specs.Annotations.{with_terms}
use Rattle.annotations.proofs.reading.read_annotations.Goals as goal

pub loop-init : goal.loop-init
loop-init c = rw c.annotation_start-at.ensures (note_start _ _ _ _ c.new-annotations.ensures refl)

pub loop-preserved : goal.loop-preserved
loop-preserved c = note_more _ _ _ _ _ _ c.loop.invariant c.loop-test.true _ c.in_ok-read.ensures.is c.in_ok-read.ensures.inside _ c.push.ensures

pub returns-in_err-read-clause-is : goal.returns-in_err-read-clause-is
unfolding with_terms
returns-in_err-read-clause-is c = rw (stopped _ _ c.from_residual.ensures.1) (note_refused _ _ _ _ _ _ c.loop.invariant c.loop-test.true _ c.in_err-read.ensures.is)

pub returns-then-at-proof_start-clause-is : goal.returns-then-at-proof_start-clause-is
unfolding with_terms
returns-then-at-proof_start-clause-is c = note_spare _ _ _ _ _ _ c.loop.invariant c.loop-test.false (λ e. omega arith)

pub returns-clause-is : goal.returns-clause-is
unfolding with_terms
returns-clause-is c = note_done _ _ _ _ _ _ c.loop.invariant c.loop-test.false (omega arith)
