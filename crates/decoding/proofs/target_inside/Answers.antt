use native.Mathlib.Omega.{arith}
use Rattle.std.proofs.lemmas.Grind.{common_steps}
use Rattle.model.specs.Instruction.{target_inside}
use Rattle.decoding.proofs.target_inside.Goals as goal

pub returns : goal.returns
unfolding target_inside
returns c = rw (← c.target_of.ensures, target_inside) (grind (arith, common_steps))
