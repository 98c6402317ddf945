-- The coefficient area of the workspace: a word for each variable, and then one for the constant. Assumes nothing.
use Rattle.std.specs.Prelude.{◌≡◌, Bool, true, false, ◌&&◌, List, ℕ, zero, suc, ◌≤◌, ◌<◌, length, get_or, eqb, ltb}
use Rattle.model.specs.Word.{add_w, sub_w}
use Rattle.model.specs.Term.{Term, variable}
use Rattle.model.specs.Linear.{constant_of, coefficient_of, variable_bound}
use Rattle.workspace.specs.Layout.{constant_word, area_words, Same}
use Rattle.nodes.specs.Table.{term_at, plain, Formed}

-- the number of a term's linear form that belongs to word k
abbrev pub form_if : Bool → ℕ → Term → ℕ
form_if true k t = coefficient_of (variable k) t
form_if false k t = constant_of t

unfoldable pub form_at : ℕ → Term → ℕ
form_at k t = form_if (ltb k constant_word) k t

-- x added to w, or subtracted
abbrev pub signed : Bool → ℕ → ℕ → ℕ
signed false w x = add_w w x
signed true w x = sub_w w x

-- node i is in the table, and its term's variables are below n
pub record Bounded (ws : List ℕ) (i n : ℕ) : Type 0 where
  pub formed : Formed ws (suc i)
  pub within : variable_bound (term_at ws i) ≤ n

-- and no mask or shift stands in it: it can be walked as a tree
pub record Tree (ws : List ℕ) (i n : ℕ) : Type 0 where
  pub formed : Formed ws (suc i)
  pub within : variable_bound (term_at ws i) ≤ n
  pub plain_term : plain (term_at ws i) ≡ true

-- us is ws with the linear form of t added to the area, or subtracted
pub record Accumulated (ws us : List ℕ) (negative : Bool) (t : Term) : Type 0 where
  pub area : (k : ℕ) → k < area_words → get_or us k 0 ≡ signed negative (get_or ws k 0) (form_at k t)
  pub above : Same area_words (length ws) ws us
  pub long : length us ≡ length ws

-- the area is all zero
pub record Cleared (ws : List ℕ) : Type 0 where
  pub word : (k : ℕ) → k < area_words → get_or ws k 0 ≡ 0

-- nodes i and j can be compared: their variables are among the first n, which leave the constant its word, and the area is free
pub record Comparable (ws : List ℕ) (i j n : ℕ) : Type 0 where
  pub few : n ≤ constant_word
  pub left : Bounded ws i n
  pub right : Bounded ws j n
  pub cleared : Cleared ws

-- the first n words are zero
unfoldable pub all_zero : ℕ → List ℕ → Bool
all_zero zero ws = true
all_zero (suc n) ws = all_zero n ws && eqb (get_or ws n 0) 0

-- us is ws with the first n words made zero; r says whether they were
pub record Emptied (ws us : List ℕ) (n : ℕ) (r : Bool) : Type 0 where
  pub is : r ≡ all_zero n ws
  pub zeros : (k : ℕ) → k < n → get_or us k 0 ≡ 0
  pub above : Same n (length ws) ws us
  pub long : length us ≡ length ws
