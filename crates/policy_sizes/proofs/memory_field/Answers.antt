use Rattle.model.proofs.Results.{stopped}
use Rattle.model.specs.Result.{◌>>=◌}
use Rattle.policy_sizes.specs.Sizes.{memory_field}
use Rattle.policy_sizes.proofs.memory_field.Goals as goal

pub returns-in_err-word_field : goal.returns-in_err-word_field
unfolding memory_field ◌>>=◌
returns-in_err-word_field c = rw (stopped _ _ c.from_residual.ensures.1, ← c.in_err-word_field.ensures)

pub returns : goal.returns
unfolding memory_field ◌>>=◌
returns c = rw (← c.in_ok-word_field.ensures) c.in_range.ensures
