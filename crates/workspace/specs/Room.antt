-- How much room the paths of a block take in the workspace at most, and that its layout has so much. Assumes nothing.
use Rattle.std.specs.Prelude.{ℕ, ◌+◌, ◌*◌, ◌≤◌}
use Rattle.model.specs.Atom.{most_atoms}
use Rattle.model.specs.Expression.{register_count, most_nodes}
use Rattle.model.specs.Package.{most_instructions}
use Rattle.model.specs.Derivation.{most_levels}
use Rattle.workspace.specs.Layout.{most_variables, constant_word, area_words, assumption_base, most_assumptions, table_base, most_table_nodes, hint_base}

-- ---- nodes of the term table
-- the two sides of an atom
abbrev pub atom_nodes : ℕ
atom_nodes = most_nodes + most_nodes

-- a block's start: the variables, a credit, sixteen atoms
abbrev pub start_room : ℕ
start_room = register_count + most_nodes + atom_nodes * most_atoms

-- an instruction
abbrev pub instruction_nodes : ℕ
instruction_nodes = 3

-- those that a rule makes for its premises
abbrev pub new_nodes : ℕ
new_nodes = 4

-- a level of a derivation: an argument, and a rule's own; all levels
abbrev pub level_room : ℕ
level_room = most_nodes + new_nodes

abbrev pub derivation_room : ℕ
derivation_room = level_room * most_levels

-- the goal of an atom, a goal on the credit, any goal of a path
abbrev pub atom_room : ℕ
atom_room = atom_nodes + derivation_room

abbrev pub credit_room : ℕ
credit_room = 2 + derivation_room

abbrev pub goal_room : ℕ
goal_room = most_nodes + atom_nodes + 3 + derivation_room

-- ---- the areas hold what a path of as many instructions as a routine may have puts there
pub record Room : Type 0 where
  -- a coefficient for each variable: the registers, and one a load
  pub variables : register_count + most_instructions ≤ most_variables
  -- a word for each assumption: a block's atoms, and one a branch
  pub assumptions : most_atoms + most_instructions ≤ most_assumptions
  -- three words for each node
  pub nodes : start_room + instruction_nodes * most_instructions + goal_room ≤ most_table_nodes
  -- and no area reaches into the next
  pub constant_after : most_variables ≤ constant_word
  pub assumptions_after : area_words ≤ assumption_base
  pub table_after : assumption_base + most_assumptions ≤ table_base
  pub hints_after : table_base + 3 * most_table_nodes ≤ hint_base
