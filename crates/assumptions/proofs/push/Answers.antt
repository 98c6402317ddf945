use Rattle.assumptions.proofs.Laws.{pushed, packed_fits}
use mathlib.Core.Path.{refl}
use native.Mathlib.Omega.{arith}
use Rattle.assumptions.proofs.push.Goals as goal

pub overflow_cast-ws : goal.overflow_cast-ws
overflow_cast-ws c = omega (arith, packed_fits c.requires.room c.requires.listed c.args.assumption.kind c.requires.sides_below c.from-tag.ensures)

pub returns : goal.returns
returns c = pushed c.requires.room c.requires.listed c.args.assumption.kind c.requires.sides_below c.from-tag.ensures refl
