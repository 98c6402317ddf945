-- How the lent workspace is laid out, and what a function keeps of it. Assumes nothing.
use Rattle.std.specs.Prelude.{◌≡◌, List, ℕ, ◌+◌, ◌-◌, ◌/◌, ◌<◌, ◌≤◌, get_or, set}
use Rattle.model.specs.Atom.{most_atoms}
use Rattle.model.specs.Expression.{register_count}
use Rattle.model.specs.Package.{most_instructions}
use Rattle.model.specs.Verdict.{least_workspace}

-- there is room for paths of so many instructions, which is as many as a path may have (Room)
abbrev pub path_room : ℕ
path_room = most_instructions

-- from word 0: a coefficient for each variable on a path, the registers and one a load; the numbers of variables are below this
abbrev pub most_variables : ℕ
most_variables = register_count + path_room

-- then sixteen words that are not used, and the constant of a linear form
abbrev pub constant_word : ℕ
constant_word = most_variables + register_count

-- the words of a linear form
abbrev pub area_words : ℕ
area_words = constant_word + 1

-- then a word an instruction that is not used; from here: the assumptions, one word each: a block's atoms, and one a branch
abbrev pub assumption_base : ℕ
assumption_base = area_words + path_room

abbrev pub most_assumptions : ℕ
most_assumptions = most_atoms + path_room

-- from here: the nodes of the term table, three words each
abbrev pub table_base : ℕ
table_base = assumption_base + most_assumptions

-- at the end: hints, of which nothing is promised: notes, two a word, and words, which say where a node with certain words may be found; what
-- notes say of the nodes of registers' terms is not overwritten while these are in the table
abbrev pub note_words : ℕ
note_words = 1968

abbrev pub hint_base : ℕ
hint_base = least_workspace - 1024 - note_words

abbrev pub most_table_nodes : ℕ
most_table_nodes = (hint_base - table_base) / 3

-- the words from lo up to, not including, hi are as they were
pub record Same (lo hi : ℕ) (ws us : List ℕ) : Type 0 where
  pub word : (k : ℕ) → lo ≤ k → k < hi → get_or us k 0 ≡ get_or ws k 0

-- three words stored at p
abbrev pub stored : List ℕ → (p a b c : ℕ) → List ℕ
stored ws p a b c = set (set (set ws p a) (p + 1) b) (p + 2) c
