use native.Mathlib.Omega.{arith}
use Rattle.std.proofs.Common.{◌≡◌, sym, ◌∙◌}
use Rattle.routine.proofs.Codes.{decoding, unknown, outside, inside}
use Rattle.decoding.proofs.Decoding.{formed}
use Rattle.model.proofs.Results.{past_stop, stopped, mapped}
use Rattle.routine.proofs.instructions.instruction.Goals as goal
use Rattle.routine.proofs.instructions.instruction.Goals.{After-map_err}

-- the instruction as it is decoded, or check 8
decoded : (c : After-map_err) → c.map_err.result ≡ decoding c.args.routine.now.bytes.now c.args.routine.now.header c.args.index
decoded c = mapped _ _ _ _ (c.decode-decoded.ensures ∙ rw c.word-i.ensures) c.map_err.ensures.cases (λ e x p. cc)

pub returns-in_err-instruction-clause-is : goal.returns-in_err-instruction-clause-is
returns-in_err-instruction-clause-is c = stopped _ _ c.from_residual.ensures.1 ∙ unknown _ _ _ _ (sym c.in_err-instruction.was ∙ decoded (goal.at.returns-in_err-instruction-clause-is c).After-map_err)

pub returns-then-not-target_inside-clause-is : goal.returns-then-not-target_inside-clause-is
returns-then-not-target_inside-clause-is c = outside _ _ _ _ (sym c.in_ok-instruction.was ∙ decoded (goal.at.returns-then-not-target_inside-clause-is c).After-map_err) (sym c.if-not-target_inside.ensures)

pub returns-clause-is : goal.returns-clause-is
returns-clause-is c = inside _ _ _ _ (sym c.in_ok-instruction.was ∙ decoded (goal.at.returns-clause-is c).After-map_err) (sym c.if-not-target_inside.ensures)

pub returns-clause-formed : goal.returns-clause-formed
returns-clause-formed c = formed _ _ _ _ _ (omega arith) _ _ (past_stop _ _ (sym (decoded (goal.at.returns-clause-formed c).After-map_err) ∙ c.in_ok-instruction.was)) (sym c.if-not-target_inside.ensures)
