-- Laws of the terms of variables. Assumes nothing.
use mathlib.Core.Path.{◌≡◌}
use mathlib.Core.List.{List}
use Prim.Native.Nat.{ℕ, ◌<◌, ◌≤◌}
use lib.ListN.{get_or}
use borrow.Author.Tests.{lt-ltb, le-ltb}
use Rattle.model.specs.Term.{variable}
use Rattle.model.specs.Expression.{register_count}
use Rattle.nodes.specs.Table.{term_at}
use Rattle.leaf_reader.specs.Leaves.{variable_term}

-- the variable of a register is its node's term, and any other is itself
pub variable_register : (ws registers : List ℕ) (v : ℕ) → v < register_count → term_at ws (get_or registers v 0) ≡ variable_term ws registers v
unfolding variable_term
variable_register ws registers v h = rw (lt-ltb v register_count h, variable_term)

pub variable_new : (ws registers : List ℕ) (v : ℕ) → register_count ≤ v → variable v ≡ variable_term ws registers v
unfolding variable_term
variable_new ws registers v h = rw (le-ltb v register_count h, variable_term)
