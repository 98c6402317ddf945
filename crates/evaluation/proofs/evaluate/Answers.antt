use Rattle.model.proofs.Results.{stopped}
use Rattle.evaluation.proofs.BlockLaws.{answer_refused, answer_left, answer_accepted}
use Rattle.evaluation.proofs.evaluate.Goals as goal

pub returns-in_err-progress : goal.returns-in_err-progress
returns-in_err-progress c = rw (stopped _ _ c.from_residual.ensures.1) (answer_refused c.proof_start.ensures c.in_err-progress.ensures)

pub returns-then-progress-setting : goal.returns-then-progress-setting
returns-then-progress-setting c = λ policy routine s. rw c.refused.ensures (answer_left c.proof_start.ensures c.in_ok-progress.ensures policy routine s c.if-progress-setting.true)

pub returns : goal.returns
returns c = λ policy routine s. answer_accepted c.proof_start.ensures c.in_ok-progress.ensures policy routine s c.if-progress-setting.false
