use Rattle.model.proofs.Results.{stopped}
use Rattle.model.specs.Result.{◌>>=◌}
use Rattle.policy_sizes.proofs.SizesLaws.{sizes_by, by_fields}
use Rattle.policy_sizes.proofs.read_sizes.Goals as goal

pub returns-in_err-regions : goal.returns-in_err-regions
unfolding sizes_by ◌>>=◌
returns-in_err-regions c = rw (stopped _ _ c.from_residual.ensures.1, by_fields, ← c.in_err-regions.ensures)

pub returns-in_err-precondition : goal.returns-in_err-precondition
unfolding sizes_by ◌>>=◌
returns-in_err-precondition c = rw (stopped _ _ c.from_residual-in_err-precondition.ensures.1, by_fields, ← c.in_ok-regions.ensures, ← c.in_err-precondition.ensures)

pub returns-in_err-postcondition : goal.returns-in_err-postcondition
unfolding sizes_by ◌>>=◌
returns-in_err-postcondition c = rw (stopped _ _ c.from_residual-in_err-postcondition.ensures.1, by_fields, ← c.in_ok-regions.ensures, ← c.in_ok-precondition.ensures, ← c.in_err-postcondition.ensures)

pub returns-in_err-size_byte : goal.returns-in_err-size_byte
unfolding sizes_by ◌>>=◌
returns-in_err-size_byte c = rw (stopped _ _ c.from_residual-in_err-size_byte.ensures.1, by_fields, ← c.in_ok-regions.ensures, ← c.in_ok-precondition.ensures, ← c.in_ok-postcondition.ensures, ← c.in_err-size_byte.ensures)

pub returns-in_err-memory : goal.returns-in_err-memory
unfolding sizes_by ◌>>=◌
returns-in_err-memory c = rw (stopped _ _ c.from_residual-in_err-memory.ensures.1, by_fields, ← c.in_ok-regions.ensures, ← c.in_ok-precondition.ensures, ← c.in_ok-postcondition.ensures, ← c.in_ok-size_byte.ensures, ← c.in_err-memory.ensures)

pub returns-in_err-limit : goal.returns-in_err-limit
unfolding sizes_by ◌>>=◌
returns-in_err-limit c = rw (stopped _ _ c.from_residual-in_err-limit.ensures.1, by_fields, ← c.in_ok-regions.ensures, ← c.in_ok-precondition.ensures, ← c.in_ok-postcondition.ensures, ← c.in_ok-size_byte.ensures, ← c.in_ok-memory.ensures, ← c.in_err-limit.ensures)

pub returns : goal.returns
unfolding sizes_by ◌>>=◌
returns c = rw (by_fields, ← c.in_ok-regions.ensures, ← c.in_ok-precondition.ensures, ← c.in_ok-postcondition.ensures, ← c.in_ok-size_byte.ensures, ← c.in_ok-memory.ensures, ← c.in_ok-limit.ensures)
