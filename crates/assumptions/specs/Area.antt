-- The assumptions of a path, in the workspace below the term table: one word each: the kind's tag, the left node, the right node. Assumes nothing.
use Rattle.std.specs.Prelude.{◌≡◌, List, [], ◌∷◌, ◌++◌, ℕ, zero, suc, ◌+◌, ◌*◌, ◌/◌, ◌%◌, ◌<◌, ◌≤◌, length, get_or}
use Rattle.model.specs.Atom.{Atom, tag_of}
use Rattle.model.specs.Expression.{comparisons}
use Rattle.model.specs.declared.Comparison.{Comparison}
use Rattle.model.specs.declared.Comparison.TheVariants.{Equal}
use Rattle.workspace.specs.Layout.{assumption_base, most_assumptions, Same}
use Rattle.nodes.specs.Table.{low, high}
use Rattle.nodes.specs.Atoms.{atom_in}
use Rattle.nodes.specs.declared.Atom.{Atom as NodeAtom}

-- where assumption k lies
abbrev pub slot : ℕ → ℕ
slot k = assumption_base + k

-- the comparison that two bits say
abbrev pub kind_of : ℕ → Comparison
kind_of bits = get_or comparisons bits Equal

-- the word of an assumption, and the assumption in a word
abbrev pub packed : (kind : Comparison) (left right : ℕ) → ℕ
packed kind left right = tag_of kind + 4 * left + 65536 * right

abbrev pub unpacked : ℕ → NodeAtom
unpacked w = record { kind = kind_of (w % 4); left = low w / 4; right = high w }

-- assumption k, its sides as nodes
unfoldable pub entry_of : List ℕ → ℕ → NodeAtom
entry_of ws k = unpacked (get_or ws (slot k) 0)

-- the first count assumptions, in order
unfoldable pub listed : List ℕ → (count : ℕ) → List Atom
listed ws zero = []
listed ws (suc n) = listed ws n ++ (atom_in ws (entry_of ws n) ∷ [])

-- the sides of the first count assumptions are nodes below top
pub record Listed (ws : List ℕ) (count top : ℕ) : Type 0 where
  pub few : count ≤ most_assumptions
  pub held : (k : ℕ) → k < count → ((entry_of ws k).left < top) × ((entry_of ws k).right < top)

-- one assumption more: every word outside its own is as it was
pub record Pushed (ws us : List ℕ) (count top : ℕ) (a : Atom) : Type 0 where
  pub below : Same 0 (slot count) ws us
  pub above : Same (slot (suc count)) (length ws) ws us
  pub held : Listed us (suc count) top
  pub is : listed us (suc count) ≡ listed ws count ++ (a ∷ [])
