use native.Mathlib.Omega.{arith}
use Prim.Native.Nat.{◌+◌}
use mathlib.Core.Path.{◌≡◌, sym, ◌∙◌}
use Rattle.std.proofs.Common.{rules}
use Rattle.model.specs.Result.{map_err}
use Rattle.model.specs.Annotation.{annotation_refusal}
use Rattle.model.proofs.Results.{mapped, stopped}
use Rattle.expressions.specs.Reading.{ends}
use Rattle.annotations.specs.Bodies.{body_at}
use Rattle.annotations.proofs.Annotations.{no_index, bad_index, no_count, bad_count, no_body, whole}
use Rattle.annotations.proofs.reading.annotation.Goals as goal
use Rattle.annotations.proofs.reading.annotation.Goals.{After-map_err}

pub returns-then-end-at-lt2-clause-is : goal.returns-then-end-at-lt2-clause-is
returns-then-end-at-lt2-clause-is c = no_index _ _ _ _ _ c.proof_start-end.ensures (omega arith)

pub returns-then-not-contains-clause-is : goal.returns-then-not-contains-clause-is
returns-then-not-contains-clause-is c = bad_index _ _ _ _ _ c.proof_start-end.ensures (omega arith) _ c.half-index.ensures.0 _ c.contains.ensures.value c.if-not-contains.true

pub returns-then-end-at-lt3-clause-is : goal.returns-then-end-at-lt3-clause-is
returns-then-end-at-lt3-clause-is c = no_count _ _ _ _ _ c.proof_start-end.ensures (omega arith) _ c.half-index.ensures.0 _ c.contains.ensures.value c.if-not-contains.false (omega arith)

pub returns-then-count-gt-MOST_ATOMS-clause-is : goal.returns-then-count-gt-MOST_ATOMS-clause-is
returns-then-count-gt-MOST_ATOMS-clause-is c = bad_count _ _ _ _ _ c.proof_start-end.ensures (omega arith) _ c.half-index.ensures.0 _ c.contains.ensures.value c.if-not-contains.false (omega arith) _ c.from-count.ensures (omega arith)

-- where the body ends, or why the routine is refused
body_end : (c : After-map_err) → c.map_err.result ≡ map_err (annotation_refusal c.args.routine.now.bytes.now c.args.routine.now.header) (ends (body_at c.args.routine.now.bytes.now c.proof_start-end.result c.from-count.result (c.args.at + 3)))
unfolding annotation_refusal
body_end c = mapped _ _ _ _ c.body.ensures.ends c.map_err.ensures.cases (λ e x p. search rules)

pub returns-in_err-next-clause-is : goal.returns-in_err-next-clause-is
returns-in_err-next-clause-is c = stopped _ _ c.from_residual.ensures.1 ∙ no_body _ _ _ _ _ c.proof_start-end.ensures (omega arith) _ c.half-index.ensures.0 _ c.contains.ensures.value c.if-not-contains.false (omega arith) _ c.from-count.ensures c.if-count-gt-MOST_ATOMS.false _ (sym c.in_err-next.was ∙ body_end (goal.at.returns-in_err-next-clause-is c).After-map_err)

pub returns-clause-is : goal.returns-clause-is
returns-clause-is c = whole _ _ _ _ _ c.proof_start-end.ensures (omega arith) _ c.half-index.ensures.0 _ c.contains.ensures.value c.if-not-contains.false (omega arith) _ c.from-count.ensures c.if-count-gt-MOST_ATOMS.false _ (sym c.in_ok-next.was ∙ body_end (goal.at.returns-clause-is c).After-map_err)
