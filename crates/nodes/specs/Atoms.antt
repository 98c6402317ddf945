-- Atoms of nodes. Assumes nothing.
use Rattle.std.specs.Prelude.{List, ℕ, ◌<◌}
use Rattle.model.specs.Atom.{Atom}
use Rattle.model.specs.declared.Comparison.{Comparison}
use Rattle.nodes.specs.Table.{term_at}
use Rattle.nodes.specs.declared.Atom.{Atom as NodeAtom}

-- a comparison of nodes
abbrev pub node_atom : Comparison → (left right : ℕ) → NodeAtom
node_atom kind left right = record { kind = kind; left = left; right = right }

-- the atom that the words ws say
abbrev pub atom_in : List ℕ → NodeAtom → Atom
atom_in ws a = record { kind = a.kind; left = term_at ws a.left; right = term_at ws a.right }

-- its sides are nodes below top
abbrev pub AtomBelow : (top : ℕ) → NodeAtom → Type 0
AtomBelow top a = (a.left < top) × (a.right < top)
