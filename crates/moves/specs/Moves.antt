-- What running one instruction of a path owes: any instruction, and an assignment. Assumes nothing.
use Rattle.std.specs.Prelude.{◌≡◌, Bool, true, false, List, ◌∷◌, ℕ, ◌+◌, ◌*◌, ◌≤◌, length}
use Rattle.model.specs.Result.{Result, Ok, Err}
use Rattle.model.specs.Term.{Term}
use Rattle.model.specs.Policy.{Policy}
use Rattle.model.specs.Package.{most_instructions}
use Rattle.model.specs.Routine.{Routine}
use Rattle.model.specs.Goals.{Path as ModelPath, Trace, append, Move, assign, follow, tracing}
use Rattle.model.specs.Verdict.{least_workspace, refusing, judge}
use Rattle.model.specs.declared.Verdict.{Verdict}
use Rattle.model.specs.declared.Refusal.{Refusal}
use Rattle.model.specs.declared.Refusal.TheVariants.{LargeTerm}
use Rattle.workspace.specs.Layout.{most_assumptions, most_table_nodes, Same, most_variables}
use Rattle.workspace.specs.Room.{instruction_nodes, goal_room}
use Rattle.nodes.specs.Table.{term_at, place}
use Rattle.goals.specs.Judging.{Reached}
use Rattle.paths.specs.Walking.{path_of, raised_to, NodeIn, PathIn, stepped_to, written_to, Kept}
use Rattle.paths.specs.declared.Path.{Path}
use Rattle.refusals.specs.declared.Refused.{Refused}
use Rattle.goals.specs.declared.Progress.{Progress}
use Rattle.moves.specs.declared.Moved.{Moved}
use Rattle.moves.specs.declared.Moved.TheVariants.{On, Ended}

-- ---- room
-- the path is in the words, with room for so many instructions
pub record RoomFor (ws : List ℕ) (path : Path) (left : ℕ) : Type 0 where
  pub words : least_workspace ≤ length ws
  pub path_in : PathIn ws path
  pub nodes : path.top + instruction_nodes * left + goal_room ≤ most_table_nodes
  pub assumed : path.assumptions + left ≤ most_assumptions
  pub loaded : path.variables + left ≤ most_variables
  pub run : path.steps + left ≤ most_instructions
  pub within : path.counter + left ≤ most_instructions

-- so many nodes are put above the path's top, and `node` of them has the term t
pub record Built (ws us : List ℕ) (path : Path) (count node : ℕ) (t : Term) : Type 0 where
  pub path_in : PathIn us (raised_to path (path.top + count))
  pub node_in : NodeIn us (raised_to path (path.top + count)) node
  pub means : term_at us node ≡ t
  pub same : Same 0 (place path.top) ws us

-- ---- one instruction
-- the path `after` has run one instruction more than `path`
pub record Advanced (us : List ℕ) (path after : Path) : Type 0 where
  pub path_in : PathIn us after
  pub steps : after.steps ≡ path.steps + 1
  pub above : path.top ≤ after.top
  pub nodes : after.top ≤ path.top + instruction_nodes
  pub more : path.variables ≤ after.variables
  pub variables : after.variables ≤ path.variables + 1
  pub listed : path.assumptions ≤ after.assumptions
  pub assumptions : after.assumptions ≤ path.assumptions + 1

-- it goes on at the next index
abbrev pub Leads : (us bytes : List ℕ) (path : Path) → Result Moved Refused → Type 0
Leads us bytes path (Ok (On after q)) = Advanced us path after × (after.counter ≡ path.counter + 1) × Reached bytes q
Leads us bytes path (Ok (Ended q)) = Reached bytes q
Leads us bytes path (Err x) = Unit {0}

-- the pending paths are followed, and another trace after them
abbrev pub following : Policy → Routine → (credit : Term) (walks : ModelPath → List ModelPath → Trace) (paths : List ModelPath) (rest : Trace) → Trace
following policy routine credit walks paths rest = append (follow policy routine credit walks paths) rest

module _ (bytes : List ℕ) (policy : Policy) (routine : Routine) (credit : Term) where
  -- the checker's answer after an instruction, where `walks` follows on its path and on those that are pending, and `rest` after them
  abbrev pub verdict_moved : (us : List ℕ) → Result Moved Refused → (walks : ModelPath → List ModelPath → Trace) (pending : List ModelPath) (rest : Trace) → Verdict
  verdict_moved us (Ok (On after q)) walks pending rest = judge bytes policy (following policy routine credit walks (path_of us after ∷ pending) rest) q.at q.goals
  verdict_moved us (Ok (Ended q)) walks pending rest = judge bytes policy (following policy routine credit walks pending rest) q.at q.goals
  verdict_moved us (Err x) walks pending rest = refusing x.refusal x.goals

  -- r is what comes of the move m, whatever paths are pending and whatever trace follows
  pub record MoveJudged (us : List ℕ) (m : Move) (p : Progress) (r : Result Moved Refused) : Type 0 where
    pub says : (walks : ModelPath → List ModelPath → Trace) (pending : List ModelPath) (rest : Trace)
        → judge bytes policy (append (tracing policy routine credit walks pending m) rest) p.at p.goals ≡ verdict_moved us r walks pending rest

-- what an instruction with the move `what` owes, where policy and routine are as `Where` says
pub record Moves (ws us bytes : List ℕ) (Where : Policy → Routine → Type 0) (credit : Term) (what : Policy → Routine → Move) (path : Path) (p : Progress) (r : Result Moved Refused) : Type 0 where
  pub judged : (policy : Policy) (routine : Routine) → Where policy routine → MoveJudged bytes policy routine credit us (what policy routine) p r
  pub kept : Kept ws us path
  pub leads : Leads us bytes path r

-- register d takes a node where its term is small enough, and else it is refused
unfoldable pub assigned_as : Bool → Path → (d node : ℕ) → Result Path Refusal
assigned_as true path d node = Ok (stepped_to (written_to path d node) (path.counter + 1))
assigned_as false path d node = Err (LargeTerm path.counter)

-- what comes of an assignment, which has no goals: the progress stays
abbrev pub going_on : Progress → Result Path Refusal → Result Moved Refused
going_on p (Ok after) = Ok (On after p)
going_on p (Err x) = Err (record { refusal = x; goals = p.goals })

-- an assignment goes by neither policy, routine nor credit
abbrev pub Anywhere : Policy → Routine → Type 0
Anywhere policy routine = Unit {0}

pub record Assigns (ws us : List ℕ) (path : Path) (d : ℕ) (t : Term) (r : Result Path Refusal) : Type 0 where
  pub moves : (bytes : List ℕ) (credit : Term) (p : Progress) → Reached bytes p → Moves ws us bytes Anywhere credit (λ _ _. assign (path_of ws path) d t) path p (going_on p r)
