use Rattle.model.specs.Term.{eq_term}
use Rattle.nodes.proofs.Table.{node_built}
use Rattle.claims.proofs.PartLaws.{not_constant}
use Rattle.claims.proofs.parts.is_constant.Goals as goal

pub returns-in-Constant : goal.returns-in-Constant
unfolding eq_term
returns-in-Constant c = rw (node_built c.requires.shaped c.in-Constant.ensures)

pub returns-in_default : goal.returns-in_default
returns-in_default c = not_constant c.requires c.view.ensures _ c.in_default.not-Constant
