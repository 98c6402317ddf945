use Rattle.blocks.proofs.Starting.{variables_more}
use Rattle.blocks.proofs.variables.Goals as goal

pub loop-v-preserved : goal.loop-v-preserved
loop-v-preserved c = variables_more c.loop-v.invariant c.put_variable.ensures
