-- Where goals of a path can be derived: the room above its top. Assumes nothing.
use Rattle.std.specs.Prelude.{List, ℕ}
use Rattle.nodes.specs.Table.{Space}
use Rattle.paths.specs.declared.Path.{Path}
use Rattle.paths.specs.Walking.{PathIn}
use Rattle.goals.specs.declared.Progress.{Progress}
use Rattle.goals.specs.Judging.{Reached}

-- goals of the path can be derived, with so much room above its top
pub record Going (ws : List ℕ) (bytes : List ℕ) (room : ℕ) (path : Path) (p : Progress) : Type 0 where
  pub inside : PathIn ws path
  pub space : Space ws path.top room
  pub reached : Reached bytes p
