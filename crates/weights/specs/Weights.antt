-- Weights: while forms are compared over the table, the value word of a node that holds no value holds how often its term's form is still to
-- be added. Assumes nothing.
use Rattle.std.specs.Prelude.{◌≡◌, ◌≢◌, Bool, true, false, not, ◌&&◌, List, ℕ, zero, suc, ◌+◌, ◌-◌, ◌*◌, ◌%◌, ◌^◌, ◌≤◌, ◌<◌, length, get_or, set, eqb, Option, MatchOption}
use Rattle.model.specs.Word.{add_w, sub_w}
use Rattle.model.specs.Term.{Term, eq_term}
use Rattle.model.specs.Linear.{coefficient_of, variable_bound}
use Rattle.workspace.specs.Layout.{Same, constant_word, area_words, hint_base}
use Rattle.nodes.specs.Table.{place, value_at, valued_at, term_at, plain, Formed}
use Rattle.forms.specs.Area.{form_at}
use Rattle.forms.specs.Entries.{opaque, Entry, in_word, of_term, Valid, number_at, Unlike}

-- what the area holds of an entry: masked and shifted terms have no word there
abbrev pub area_at : List ℕ → Entry → ℕ
area_at us (in_word p) = get_or us p 0
area_at us (of_term x) = 0

-- w times the form of node k's term, given to the constant's word where the node holds a value, else to the node's weight
abbrev pub given_to : Bool → List ℕ → (k w : ℕ) → List ℕ
given_to true us k w = set us constant_word (add_w (get_or us constant_word 0) (w * value_at us k % 2 ^ 32))
given_to false us k w = set us (place k + 1) (add_w (value_at us k) w)

-- what the weights of the first n nodes still add, where ws are the words without weights
unfoldable pub total : (ws us : List ℕ) (e : Entry) (n : ℕ) → ℕ
total ws us e zero = 0
total ws us e (suc k) = total ws us e k + (value_at us k - value_at ws k) * number_at e (term_at ws k)

-- up to the hints us is ws but in the area and in the weights of nodes below n that hold no value; from node m on only masked and shifted terms
-- have weights
pub record Loaded (ws us : List ℕ) (n m : ℕ) : Type 0 where
  pub long : length us ≡ length ws
  pub kept : (p : ℕ) → area_words ≤ p → p < hint_base → ((k : ℕ) → k < n → valued_at ws k ≡ false → p ≢ place k + 1) → get_or us p 0 ≡ get_or ws p 0
  pub left : (k : ℕ) → m ≤ k → k < n → value_at us k ≢ value_at ws k → opaque (term_at ws k) ≡ true

-- a term that may have a weight: its variables are below the constant's word, and it is plain, where only plain terms are compared
pub record Allowed (only : Bool) (t : Term) : Type 0 where
  pub bound : variable_bound t ≤ constant_word
  pub plain_term : only ≡ true → plain t ≡ true

-- with what the weights still add, the area is what is wanted, modulo 2^32
pub record Weighed (ws us : List ℕ) (n m : ℕ) (only : Bool) (want : Entry → ℕ) : Type 0 where
  pub loaded : Loaded ws us n m
  pub small : (p : ℕ) → p < area_words → get_or us p 0 < 2 ^ 32
  pub within : (k : ℕ) → k < n → value_at us k ≢ value_at ws k → Allowed only (term_at ws k)
  pub sums : (e : Entry) → Valid e → (area_at us e + total ws us e n) % 2 ^ 32 ≡ want e % 2 ^ 32

-- us are the words of some table, with weights that are still to be given below node m
pub record Weighable (us : List ℕ) (m : ℕ) : Type 0 where
  pub table : List ℕ
  pub nodes : ℕ
  pub only : Bool
  pub want : Entry → ℕ
  pub inside : m ≤ nodes
  pub formed : Formed table nodes
  pub weighed : Weighed table us nodes m only want

-- the weights of the nodes from m up to n are given to their parts, but for those of masked and shifted terms
pub record Passed (us vs : List ℕ) (n m : ℕ) : Type 0 where
  pub weighed : (ws : List ℕ) (nodes : ℕ) (only : Bool) (want : Entry → ℕ) → n ≤ nodes → Formed ws nodes → Weighed ws us nodes n only want → Weighed ws vs nodes m only want

-- ---- masked and shifted terms, once all else is given

-- node k has a weight
abbrev pub weighs_at : List ℕ → ℕ → Bool
weighs_at us k = not (eqb (value_at us k) 0) && not (valued_at us k)

-- a node before k with the term of node k, or none, if none with a weight has it; of the words only a hint is changed
pub record Partner (us vs : List ℕ) (k : ℕ) (r : Option ℕ) : Type 0 where
  pub kept : Same 0 hint_base us vs
  pub found : MatchOption r ((j : ℕ) → j < k → weighs_at us j ≡ true → eq_term (term_at us j) (term_at us k) ≡ false) (λ j. (j < k) × (eq_term (term_at us j) (term_at us k) ≡ true))

-- us are the words of some table of n nodes, of which masked and shifted terms have weights
pub record Settleable (us : List ℕ) (n : ℕ) : Type 0 where
  pub table : List ℕ
  pub formed : Formed table n
  pub loaded : Loaded table us n 0

-- a masked or shifted term of which something is left
pub record Unsettled (ws us : List ℕ) (n : ℕ) : Type 0 where
  pub term : Term
  pub is_opaque : opaque term ≡ true
  pub left : total ws us (of_term term) n % 2 ^ 32 ≢ 0

-- the weights of the nodes from m up to n are added to those of earlier nodes with their terms; r says whether there was one for each
pub record Settled (us vs : List ℕ) (n m : ℕ) (r : Bool) : Type 0 where
  pub area : Same 0 area_words us vs
  pub loaded : (ws : List ℕ) → Formed ws n → Loaded ws us n 0 → Loaded ws vs m 0
  pub agree : (ws : List ℕ) → Formed ws n → Loaded ws us n 0 → r ≡ true → (x : Term) → opaque x ≡ true → total ws vs (of_term x) m % 2 ^ 32 ≡ total ws us (of_term x) n % 2 ^ 32
  pub differ : (ws : List ℕ) → Formed ws n → Loaded ws us n 0 → r ≡ false → Unsettled ws us n

-- ---- both forms

-- us is ws, whose area is zero, with the form of s less that of t in the area; r says whether each masked or shifted term has the same
-- coefficient in both
pub record Reckoned (ws us : List ℕ) (s t : Term) (r : Bool) : Type 0 where
  pub area : (p : ℕ) → p < area_words → get_or us p 0 ≡ sub_w (add_w 0 (form_at p s)) (form_at p t)
  pub above : Same area_words hint_base ws us
  pub long : length us ≡ length ws
  pub agree : r ≡ true → (x : Term) → opaque x ≡ true → coefficient_of x s ≡ coefficient_of x t
  pub differ : r ≡ false → Unlike s t

-- the same, with weights that are left below node n
pub record Spread (ws us : List ℕ) (n : ℕ) (s t : Term) : Type 0 where
  pub area : (p : ℕ) → p < area_words → get_or us p 0 ≡ sub_w (add_w 0 (form_at p s)) (form_at p t)
  pub formed : Formed ws n
  pub loaded : Loaded ws us n 0
  pub sums : (x : Term) → opaque x ≡ true → (total ws us (of_term x) n + coefficient_of x t) % 2 ^ 32 ≡ coefficient_of x s % 2 ^ 32
  pub none : (plain s && plain t) ≡ true → Loaded ws us 0 0
