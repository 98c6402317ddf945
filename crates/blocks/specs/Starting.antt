-- What the functions that start a block and assume atoms owe. Assumes nothing.
use Rattle.std.specs.Prelude.{◌≡◌, List, [], map, ◌++◌, ℕ, ◌+◌, ◌*◌, ◌<◌, ◌≤◌, length, get_or}
use Rattle.model.specs.Result.{Ok}
use Rattle.model.specs.Term.{constant, variable}
use Rattle.model.specs.Atom.{Atom, most_atoms}
use Rattle.model.specs.Expression.{register_count, expression_at, atoms_at}
use Rattle.model.specs.Annotation.{Annotation}
use Rattle.model.specs.Goals.{register_variables, block_start, assuming, Path as ModelPath}
use Rattle.model.specs.Verdict.{least_workspace}
use Rattle.workspace.specs.Layout.{most_assumptions, table_base, Same}
use Rattle.workspace.specs.Room.{atom_nodes, start_room}
use Rattle.nodes.specs.Table.{term_at, place, Formed, Space}
use Rattle.assumptions.specs.Area.{slot}
use Rattle.forms.specs.Area.{Cleared}
use Rattle.rule_reader.specs.Opening.{register_nodes}
use Rattle.policy.specs.declared.Condition.{Condition}
use Rattle.annotations.specs.declared.reading.Annotated.{Annotated}
use Rattle.paths.specs.declared.Path.{Path}
use Rattle.blocks.specs.declared.Block.{Block}
use Rattle.paths.specs.Walking.{path_of, PathIn, NodeIn}

-- ---- an assumption more
abbrev pub assumed_path : Path → Path
assumed_path p = record { counter = p.counter; steps = p.steps; variables = p.variables; assumptions = p.assumptions + 1; top = p.top; registers = p.registers }

-- r is the path with the atom a assumed besides; the path itself is as it was, for the other edge
pub record Assumed (ws us : List ℕ) (path : Path) (a : Atom) (r : Path) : Type 0 where
  pub form : r ≡ assumed_path path
  pub inside : PathIn us r
  pub is : path_of us r ≡ assuming (path_of ws path) a
  pub still : PathIn us path
  pub same : path_of us path ≡ path_of ws path
  pub low : Same 0 (slot path.assumptions) ws us
  pub table : Same table_base (place path.top) ws us

-- ---- the start
-- a workspace that is long enough, with the words for coefficients clear
pub record Workspace (ws : List ℕ) : Type 0 where
  pub words : least_workspace ≤ length ws
  pub cleared : Cleared ws

-- the first n nodes are the variables
pub record Variables (ws us : List ℕ) (n : ℕ) : Type 0 where
  pub kept : Same 0 table_base ws us
  pub formed : Formed us n
  pub are : (v : ℕ) → v < n → term_at us v ≡ variable v

abbrev pub start_path : (index : ℕ) → Path
start_path index = record { counter = index; steps = 0; variables = register_count; assumptions = 0; top = register_count; registers = register_nodes }

pub record Started (us : List ℕ) (index : ℕ) (r : Path) : Type 0 where
  pub form : r ≡ start_path index
  pub inside : PathIn us r
  pub is : path_of us r ≡ block_start index []

-- ---- atoms that are assumed
-- a path whose registers are the variables, with room for so many atoms
pub record Fresh (ws : List ℕ) (path : Path) (number : ℕ) : Type 0 where
  pub inside : PathIn ws path
  pub own : map (term_at ws) path.registers ≡ register_variables
  pub space : Space ws path.top (atom_nodes * number)
  pub few : path.assumptions + number ≤ most_assumptions

abbrev pub assuming_all : ModelPath → List Atom → ModelPath
assuming_all s atoms = record { counter = s.counter; steps = s.steps; registers = s.registers; variables = s.variables; assumptions = s.assumptions ++ atoms }

-- r is the path with the atoms of a condition assumed besides, which stand in these bytes
pub record AllAssumed (ws us : List ℕ) (path : Path) (bytes : List ℕ) (end : ℕ) (condition : Condition) (r : Path) : Type 0 where
  pub inside : PathIn us r
  pub is : (atoms : List Atom) (next : ℕ) → atoms_at bytes end register_count condition.atoms condition.at ≡ Ok (atoms, next) → path_of us r ≡ assuming_all (path_of ws path) atoms
  pub table : Same table_base (place path.top) ws us
  pub grows : path.top ≤ r.top
  pub few : r.top ≤ path.top + atom_nodes * condition.atoms
  pub more : r.assumptions ≤ path.assumptions + condition.atoms
  pub counter : r.counter ≡ path.counter
  pub steps : r.steps ≡ path.steps
  pub variables : r.variables ≡ path.variables

-- ---- blocks
-- the block's path and its credit, at an index
pub record BlockIn (us : List ℕ) (index : ℕ) (r : Block) : Type 0 where
  pub inside : PathIn us r.path
  pub credit : NodeIn us r.path r.credit
  pub counter : r.path.counter ≡ index
  pub steps : r.path.steps ≡ 0
  pub variables : r.path.variables ≡ register_count
  pub few : r.path.top ≤ start_room
  pub more : r.path.assumptions ≤ most_atoms

-- the block at instruction 0
pub record EntryBlock (us conditions : List ℕ) (precondition : Condition) (limit : ℕ) (r : Block) : Type 0 where
  pub block : BlockIn us 0 r
  pub credit : term_at us r.credit ≡ constant limit
  pub is : (atoms : List Atom) (next : ℕ) → atoms_at conditions (length conditions) register_count precondition.atoms precondition.at ≡ Ok (atoms, next)
      → path_of us r.path ≡ block_start 0 atoms

-- the block at the annotation a that stands at a place
pub record AnnotationBlock (us bytes : List ℕ) (end : ℕ) (annotated : Annotated) (r : Block) : Type 0 where
  pub block : BlockIn us annotated.index r
  pub is : (a : Annotation) (q next : ℕ) → expression_at bytes end register_count (annotated.at + 3) ≡ Ok (a.credit, q)
      → atoms_at bytes end register_count (get_or bytes (annotated.at + 2) 0) q ≡ Ok (a.atoms, next)
      → (term_at us r.credit ≡ a.credit) × (path_of us r.path ≡ block_start annotated.index a.atoms)
