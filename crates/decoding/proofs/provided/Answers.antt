use Rattle.model.specs.Result.{◌>>=◌, check}
use Rattle.model.specs.Instruction.{provided}
use Rattle.decoding.proofs.provided.Goals as goal

pub returns-then-fields : goal.returns-then-fields
unfolding provided ◌>>=◌ check
returns-then-fields c = rw c.if-fields.true

pub returns-else-fields : goal.returns-else-fields
unfolding provided ◌>>=◌ check
returns-else-fields c = rw c.if-fields.false
