-- What a linear form has numbers for. Assumes nothing.
use Rattle.std.specs.Prelude.{◌≡◌, ◌≢◌, Bool, true, ℕ, ◌<◌, ltb}
use Rattle.model.specs.Term.{Term, root_of}
use Rattle.model.specs.Linear.{coefficient_of}
use Rattle.workspace.specs.Layout.{area_words}
use Rattle.forms.specs.Area.{form_at}

-- a masked or shifted term, which stands for itself in a linear form
abbrev pub opaque : Term → Bool
opaque t = ltb 3 (root_of t).tag

-- what a linear form has a number for: a word of the area (a variable's, or the constant's), or a masked or shifted term
pub data Entry : Type 0 where
  in_word : ℕ → Entry
  of_term : Term → Entry

abbrev pub Valid : Entry → Type 0
Valid (in_word p) = p < area_words
Valid (of_term x) = opaque x ≡ true

-- the number that a term's form has for it
abbrev pub number_at : Entry → Term → ℕ
number_at (in_word p) t = form_at p t
number_at (of_term x) t = coefficient_of x t

-- a term whose coefficients differ
pub record Unlike (s t : Term) : Type 0 where
  pub term : Term
  pub differs : coefficient_of term s ≢ coefficient_of term t
