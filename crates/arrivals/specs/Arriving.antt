-- What the functions that derive the goals on the credit, of an arrival and of a return owe. Assumes nothing.
use Rattle.std.specs.Prelude.{◌≡◌, List, [], ◌∷◌, ℕ, ◌+◌, length, get_or}
use Rattle.model.specs.Result.{Result, Ok}
use Rattle.model.specs.Term.{Term, constant, difference}
use Rattle.model.specs.Atom.{Atom, at_most}
use Rattle.model.specs.Policy.{Policy}
use Rattle.model.specs.Expression.{register_count, expression_at, atoms_at}
use Rattle.model.specs.Annotation.{Annotation}
use Rattle.model.specs.Goals.{atom, goal_of, arrival, returning}
use Rattle.policy.specs.declared.Condition.{Condition}
use Rattle.refusals.specs.declared.Refused.{Refused}
use Rattle.model.specs.declared.Region.{Region}
use Rattle.paths.specs.declared.Path.{Path}
use Rattle.paths.specs.Walking.{path_of}
use Rattle.goals.specs.declared.Progress.{Progress}
use Rattle.goals.specs.Judging.{Judges}
use Rattle.goals.specs.Settling.{Left}

module _ (ws us : List ℕ) (bytes : List ℕ) (regions : List Region) (path : Path) (p : Progress) (r : Result Progress Refused) where
  -- the two goals on the credit: the steps at most the credit, and what is owed at most the rest
  pub record CreditsJudged (credit owed : Term) : Type 0 where
    pub judges : (policy : Policy) → policy.regions ≡ regions
        → let s = path_of ws path in
        Judges bytes policy (goal_of s (atom (at_most (constant s.steps) credit)) ∷ goal_of s (atom (at_most owed (difference credit (constant s.steps)))) ∷ []) p r
    pub left : Left ws us bytes path r

  -- the arrival at the annotation a that stands at a position: its atom count, its credit, its atoms
  pub record ArrivalJudged (credit : Term) (end at : ℕ) : Type 0 where
    pub judges : (policy : Policy) → policy.regions ≡ regions → (a : Annotation) (q next : ℕ)
        → expression_at bytes end register_count (at + 3) ≡ Ok (a.credit, q)
        → atoms_at bytes end register_count (get_or bytes (at + 2) 0) q ≡ Ok (a.atoms, next)
        → Judges bytes policy (arrival (path_of ws path) credit a) p r
    pub left : Left ws us bytes path r

  -- a return, the atoms of a condition standing in these bytes
  pub record ReturnJudged (credit : Term) (conditions : List ℕ) (condition : Condition) : Type 0 where
    pub judges : (policy : Policy) → policy.regions ≡ regions → (atoms : List Atom) (next : ℕ)
        → atoms_at conditions (length conditions) register_count condition.atoms condition.at ≡ Ok (atoms, next)
        → Judges bytes policy (returning (path_of ws path) credit atoms) p r
    pub left : Left ws us bytes path r
