-- What the reader that builds atoms in the term table owes. Assumes nothing.
use Rattle.std.specs.Prelude.{List, ℕ, ◌+◌, ◌≤◌, IfOk}
use Rattle.model.specs.Result.{Result, map_ok}
use Rattle.model.specs.Term.{Term}
use Rattle.model.specs.Atom.{Atom}
use Rattle.model.specs.declared.ReadError.{ReadError}
use Rattle.model.specs.Expression.{atom_at}
use Rattle.workspace.specs.Layout.{Same}
use Rattle.workspace.specs.Room.{atom_nodes}
use Rattle.nodes.specs.Atoms.{atom_in, AtomBelow}
use Rattle.nodes.specs.Table.{place, Formed}
use Rattle.leaf_reader.specs.Leaves.{over, variable_term}
use Rattle.leaf_reader.specs.declared.sources.Source.{Source}
use Rattle.atom_reader.specs.declared.AtomParsed.{AtomParsed}

-- ---- an atom over other terms
abbrev pub over_atom : (σ : ℕ → Term) → Atom → Atom
over_atom σ a = record { kind = a.kind; left = over σ a.left; right = over σ a.right }

abbrev pub atom_over : (σ : ℕ → Term) → Result (Atom × ℕ) ReadError → Result (Atom × ℕ) ReadError
atom_over σ x = map_ok (λ y. (over_atom σ y.0, y.1)) x

-- what stands in a source, over the terms of the registers in the words ws
abbrev pub atom_read : (ws : List ℕ) → Source → (at : ℕ) → Result (Atom × ℕ) ReadError
atom_read ws source at = atom_over (variable_term ws source.registers) (atom_at source.bytes.now source.end source.limit at)

-- what an answer says in the words us
abbrev pub atom_answer : List ℕ → Result AtomParsed ReadError → Result (Atom × ℕ) ReadError
atom_answer us r = map_ok (λ x. (atom_in us x.atom, x.next)) r

-- ---- the contract
-- the table after an atom is read: its nodes and the next position are within their bounds, and no more nodes are new than two expressions have
pub record AtomAbove (us : List ℕ) (end top : ℕ) (x : AtomParsed) : Type 0 where
  pub formed : Formed us x.top
  pub in_table : AtomBelow x.top x.atom
  pub next_in_bounds : x.next ≤ end
  pub grows : top ≤ x.top
  pub few : x.top ≤ top + atom_nodes

-- the table after an answer: the words below the top are kept
pub record AtomGrown (ws us : List ℕ) (end top : ℕ) (r : Result AtomParsed ReadError) : Type 0 where
  pub kept : Same 0 (place top) ws us
  pub formed : Formed us top
  pub found : IfOk r (λ x. AtomAbove us end top x)
