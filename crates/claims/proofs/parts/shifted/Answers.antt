use Rattle.model.specs.Rule.{shift_of}
use Rattle.model_laws.proofs.Steps.{check_passes}
use Rattle.nodes.proofs.Table.{node_built}
use Rattle.std.proofs.Common.{refl}
use Rattle.claims.proofs.PartLaws.{not_shift}
use Rattle.claims.proofs.parts.shifted.Goals as goal

pub returns-in-Shift-clause-is : goal.returns-in-Shift-clause-is
unfolding shift_of
returns-in-Shift-clause-is c = rw (node_built c.requires.shaped c.in-Shift.ensures) (check_passes _ _ refl refl)

pub returns-in_default : goal.returns-in_default
returns-in_default c = record { is = not_shift c.requires c.view.ensures c.in_default.not-Shift; below = tt }
