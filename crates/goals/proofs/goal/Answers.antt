use Rattle.model.specs.Result.{Err, Ok}
use Rattle.model.proofs.Results.{stopped}
use Rattle.goals.proofs.Settling.{goal_judged}
use Rattle.goals.proofs.goal.Goals as goal

pub returns-in_err-at : goal.returns-in_err-at
returns-in_err-at c = rw (stopped _ _ c.from_residual.ensures.1) (goal_judged c.requires.going _ (Err _) c.check_goal-derived.ensures (λ e h. cc) c.in_err-at.ensures.cases)

pub returns : goal.returns
returns c = goal_judged c.requires.going _ (Ok _) c.check_goal-derived.ensures (λ e h. absurd h) c.in_ok-at.ensures.cases
