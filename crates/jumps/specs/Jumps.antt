-- What arrivals, the edges of branches, and returns owe. Assumes nothing.
use Rattle.std.specs.Prelude.{◌≡◌, List, ℕ, length, eqb, Option, None, Some, IfSome, IfOk}
use Rattle.std.specs.List.{position_from}
use Rattle.std.proofs.Math.Option.{Option as Found, none, some}
use Rattle.model.specs.Result.{Result, Ok, Err}
use Rattle.model.specs.Term.{Term}
use Rattle.model.specs.Policy.{Policy}
use Rattle.model.specs.Annotation.{Annotation, annotation_at}
use Rattle.model.specs.Routine.{Routine}
use Rattle.model.specs.Expression.{register_count, atoms_at}
use Rattle.model.specs.Atom.{Atom}
use Rattle.model.specs.Goals.{Path as ModelPath, path_to, assuming, arrival}
use Rattle.model.specs.declared.Region.{Region}
use Rattle.policy.specs.declared.Condition.{Condition}
use Rattle.model.specs.declared.Comparison.{Comparison}
use Rattle.model.specs.declared.Comparison.TheVariants.{Equal, Unequal, Less, AtMost}
use Rattle.workspace.specs.Layout.{Same}
use Rattle.nodes.specs.Table.{place}
use Rattle.nodes.specs.Atoms.{node_atom}
use Rattle.nodes.specs.declared.Atom.{Atom as NodeAtom}
use Rattle.goals.specs.Judging.{Reached, Judges}
use Rattle.paths.specs.Walking.{path_of, Kept}
use Rattle.paths.specs.declared.Path.{Path}
use Rattle.refusals.specs.declared.Refused.{Refused}
use Rattle.setting.specs.declared.Tables.{Tables}
use Rattle.setting.specs.Setting.{TablesStand}
use Rattle.goals.specs.declared.Progress.{Progress}
use Rattle.moves.specs.Moves.{Advanced}

-- ---- branches
-- the comparison that holds where another does not
abbrev pub opposite_of : Comparison → (left right : ℕ) → NodeAtom
opposite_of Equal l r = node_atom Unequal l r
opposite_of Unequal l r = node_atom Equal l r
opposite_of Less l r = node_atom AtMost r l
opposite_of AtMost l r = node_atom Less r l

-- an edge: the path has run one instruction more and has come to an index, where a comparison is assumed besides
pub record Edge (ws us : List ℕ) (path : Path) (index : ℕ) (a : Atom) (after : Path) : Type 0 where
  pub means : path_of us after ≡ assuming (path_to (path_of ws path) index) a
  pub advanced : Advanced us path after
  pub counter : after.counter ≡ index
  pub kept : Kept ws us path

-- ---- returns
-- where the policy has these regions, and its postcondition is the condition that stands in these bytes
abbrev pub Returning : (conditions : List ℕ) → Condition → (regions : List Region) → Policy → Routine → Type 0
Returning conditions c regions policy routine = (policy.regions ≡ regions) × ((next : ℕ) × (atoms_at conditions (length conditions) register_count c.atoms c.at ≡ Ok (policy.postcondition, next)))

-- ---- arrivals
-- the goals of the annotation, if there is one
abbrev pub ArrivedAs : (bytes : List ℕ) → Policy → (s : ModelPath) (credit : Term) → Found Annotation → Progress → Result (Option Progress) Refused → Type 0
ArrivedAs bytes policy s credit note p (Ok None) = note ≡ none
ArrivedAs bytes policy s credit note p (Ok (Some q)) = (a : Annotation) × (note ≡ some a) × Judges bytes policy (arrival s credit a) p (Ok q)
ArrivedAs bytes policy s credit note p (Err x) = (a : Annotation) × (note ≡ some a) × Judges bytes policy (arrival s credit a) p (Err x)

pub record Arrives (ws us : List ℕ) (tables : Tables) (credit : Term) (path : Path) (p : Progress) (r : Result (Option Progress) Refused) : Type 0 where
  pub judged : (policy : Policy) (routine : Routine) → TablesStand tables policy routine
      → ArrivedAs tables.routine.bytes.now policy (path_of ws path) credit (annotation_at routine.annotations path.counter) p r
  pub nowhere : r ≡ Ok None → position_from (λ a. eqb a.index path.counter) 0 tables.annotations.now ≡ None
  pub kept : Same 0 (place path.top) ws us
  pub reached : IfOk r (λ found. IfSome found (Reached tables.routine.bytes.now))
