-- What the functions that derive one goal and the goals of atoms owe. Assumes nothing.
use Rattle.std.specs.Prelude.{◌≡◌, List, [], ◌∷◌, ℕ, IfOk}
use Rattle.model.specs.Result.{Result, Ok}
use Rattle.model.specs.Atom.{Atom}
use Rattle.model.specs.Policy.{Policy}
use Rattle.model.specs.Expression.{register_count, atoms_at}
use Rattle.model.specs.Goals.{Claim, goal_of, atom_goals}
use Rattle.workspace.specs.Layout.{Same}
use Rattle.nodes.specs.Table.{place}
use Rattle.policy.specs.declared.Condition.{Condition}
use Rattle.refusals.specs.declared.Refused.{Refused}
use Rattle.model.specs.declared.Region.{Region}
use Rattle.paths.specs.declared.Path.{Path}
use Rattle.paths.specs.Walking.{path_of}
use Rattle.goals.specs.declared.Progress.{Progress}
use Rattle.goals.specs.Judging.{Reached, Judges}

-- what is left: the words below the path's top as they were, and a progress within the proof
pub record Left (ws us bytes : List ℕ) (path : Path) (r : Result Progress Refused) : Type 0 where
  pub kept : Same 0 (place path.top) ws us
  pub reached : IfOk r (Reached bytes)

module _ (ws us : List ℕ) (bytes : List ℕ) (regions : List Region) (path : Path) (p : Progress) (r : Result Progress Refused) where
  -- one claim of the path
  pub record GoalJudged (claim : Claim) : Type 0 where
    pub judges : (policy : Policy) → policy.regions ≡ regions → Judges bytes policy (goal_of (path_of ws path) claim ∷ []) p r
    pub left : Left ws us bytes path r

  -- the atoms of a condition that stands in these bytes
  pub record AtomsJudged (source : List ℕ) (end : ℕ) (condition : Condition) : Type 0 where
    pub judges : (policy : Policy) → policy.regions ≡ regions → (atoms : List Atom) (next : ℕ) → atoms_at source end register_count condition.atoms condition.at ≡ Ok (atoms, next)
        → Judges bytes policy (atom_goals (path_of ws path) atoms) p r
    pub left : Left ws us bytes path r
