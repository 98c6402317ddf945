-- A path of a block in the words of the workspace. Assumes nothing.
use Rattle.std.specs.Prelude.{◌≡◌, List, map, ℕ, ◌+◌, ◌<◌, ◌≤◌, length, get_or, set}
use Rattle.model.specs.Expression.{register_count}
use Rattle.model.specs.Linear.{variable_bound}
use Rattle.model.specs.Package.{most_instructions}
use Rattle.model.specs.Goals.{Path as ModelPath}
use Rattle.model_laws.specs.Bounded.{ClaimBounded}
use Rattle.workspace.specs.Layout.{table_base, Same}
use Rattle.nodes.specs.Table.{term_at, place}
use Rattle.leaf_reader.specs.declared.sources.Source.{Source}
use Rattle.assumptions.specs.Area.{slot, listed}
use Rattle.claims.specs.declared.Claim.{Claim}
use Rattle.claims.specs.declared.Scope.{Scope}
use Rattle.claims.specs.Parts.{claim_of, ClaimBelow}
use Rattle.derivation.specs.Deriving.{Prepared}
use Rattle.paths.specs.declared.Path.{Path}

-- the path that the words ws say
abbrev pub path_of : List ℕ → Path → ModelPath
path_of ws p = record {
  counter = p.counter;
  steps = p.steps;
  registers = map (term_at ws) p.registers;
  variables = p.variables;
  assumptions = listed ws p.assumptions;
}

-- ---- changes
-- the same path with another top of the table
abbrev pub raised_to : Path → (top : ℕ) → Path
raised_to p t = record { counter = p.counter; steps = p.steps; variables = p.variables; assumptions = p.assumptions; top = t; registers = p.registers }

-- one instruction more run, on to an index
abbrev pub stepped_to : Path → (index : ℕ) → Path
stepped_to p i = record { counter = i; steps = p.steps + 1; variables = p.variables; assumptions = p.assumptions; top = p.top; registers = p.registers }

-- register d is a node
abbrev pub written_to : Path → (d node : ℕ) → Path
written_to p d node = record { counter = p.counter; steps = p.steps; variables = p.variables; assumptions = p.assumptions; top = p.top; registers = set p.registers d node }

-- one variable more
abbrev pub one_variable : Path → Path
one_variable p = record { counter = p.counter; steps = p.steps; variables = p.variables + 1; assumptions = p.assumptions; top = p.top; registers = p.registers }

-- ---- what is read
-- a source has these bytes, up to the end, and stands over the path's registers
pub record OverRegisters (p : Path) (bytes : List ℕ) (end : ℕ) (s : Source) : Type 0 where
  pub bytes_are : s.bytes.now ≡ bytes
  pub end_is : s.end ≡ end
  pub limit_is : s.limit ≡ register_count
  pub registers_are : s.registers ≡ p.registers

-- ---- what lies in the words
-- how many assumptions and variables a derivation may name
abbrev pub scope_of : Path → Scope
scope_of p = record { assumptions = p.assumptions; variables = p.variables }

-- node i lies below the path's top, and its term is over the path's variables
pub record NodeIn (ws : List ℕ) (p : Path) (i : ℕ) : Type 0 where
  pub below : i < p.top
  pub bound : variable_bound (term_at ws i) ≤ p.variables

-- so do the nodes of a claim
pub record ClaimIn (ws : List ℕ) (p : Path) (claim : Claim) : Type 0 where
  pub below : ClaimBelow p.top claim
  pub bound : ClaimBounded p.variables (claim_of ws claim)

-- so do the registers' nodes, and the assumptions
pub record PathIn (ws : List ℕ) (p : Path) : Type 0 where
  pub prepared : Prepared ws p.top (scope_of p)
  pub sixteen : length p.registers ≡ register_count
  pub held : (v : ℕ) → v < register_count → NodeIn ws p (get_or p.registers v 0)
  pub run : p.steps ≤ most_instructions

-- the words below the path's next from_assumption, and its nodes, are as they were
pub record Kept (ws us : List ℕ) (path : Path) : Type 0 where
  pub low : Same 0 (slot path.assumptions) ws us
  pub table : Same table_base (place path.top) ws us
