-- The term table: node i lies in three words: its parts, its value and its marks. Assumes nothing.
use Rattle.std.specs.Prelude.{◌≡◌, ◌⊎◌, Bool, true, false, ◌&&◌, List, [], ◌∷◌, ◌++◌, ℕ, zero, suc, ◌+◌, ◌*◌, ◌/◌, ◌%◌, ◌<◌, ◌≤◌, min, length, get_or, eqb}
use Rattle.std.specs.Int.{from_bool}
use Rattle.model.specs.Term.{Term, constant, variable, sum, difference, mask, shift, eval, size, closed, root_of}
use Rattle.model.specs.Word.{add_w, sub_w, mask_w}
use Rattle.model.specs.Verdict.{least_workspace}
use Rattle.model.specs.Goals.{most_term_nodes}
use Rattle.workspace.specs.Layout.{most_variables, table_base, most_table_nodes, hint_base, Same}
use Rattle.nodes.specs.declared.Flag.{Flag}
use Rattle.nodes.specs.declared.Flag.TheVariants.{Closed, Valued, Plain}
use Rattle.nodes.specs.declared.Node.{Node}
use Rattle.nodes.specs.declared.Node.TheVariants.{Constant, Variable, Pair, Shift}
use Rattle.nodes.specs.declared.Operation.{Operation}
use Rattle.nodes.specs.declared.Operation.TheVariants.{Sum, Difference, Mask}

-- the lower and the upper half of a word
abbrev pub low : ℕ → ℕ
low w = w % 65536

abbrev pub high : ℕ → ℕ
high w = w / 65536

-- where node i lies
abbrev pub place : ℕ → ℕ
place i = table_base + 3 * i

-- the three words of node i
abbrev pub parts_at : List ℕ → ℕ → ℕ
parts_at ws i = get_or ws (place i) 0

abbrev pub value_at : List ℕ → ℕ → ℕ
value_at ws i = get_or ws (place i + 1) 0

abbrev pub marks_at : List ℕ → ℕ → ℕ
marks_at ws i = get_or ws (place i + 2) 0

-- whether node i holds a value, by its marks: it is closed and plain
abbrev pub valued_at : List ℕ → ℕ → Bool
valued_at ws i = eqb (marks_at ws i / 16 % 2) 1

-- the value of a flag's bit in marks
abbrev pub flag_value : Flag → ℕ
flag_value Closed = 8
flag_value Valued = 16
flag_value Plain = 32

-- the tag of an operation's nodes
abbrev pub operation_tag : Operation → ℕ
operation_tag Sum = 2
operation_tag Difference = 3
operation_tag Mask = 4

-- whether a linear form goes into the operation's parts
abbrev pub linear : Operation → Bool
linear Sum = true
linear Difference = true
linear Mask = false

-- an operation on two terms
abbrev pub operation_of : Operation → Term → Term → Term
operation_of Sum = sum
operation_of Difference = difference
operation_of Mask = mask

-- the node that a tag, parts and a value say
abbrev pub node_of_tag : (tag parts value : ℕ) → Node
node_of_tag zero p v = Constant v
node_of_tag (suc zero) p v = Variable p
node_of_tag (suc (suc zero)) p v = Pair Sum (low p) (high p)
node_of_tag (suc (suc (suc zero))) p v = Pair Difference (low p) (high p)
node_of_tag (suc (suc (suc (suc zero)))) p v = Pair Mask (low p) (high p)
node_of_tag (suc (suc (suc (suc (suc t))))) p v = Shift (high p) (low p)

-- node i of the words ws: the tag is the marks' remainder by 8
unfoldable pub view_of : List ℕ → ℕ → Node
view_of ws i = node_of_tag (marks_at ws i % 8) (parts_at ws i) (value_at ws i)

-- the term of a node, where f gives the terms of its parts
abbrev pub build : (ℕ → Term) → Node → Term
build f (Constant c) = constant c
build f (Variable v) = variable v
build f (Pair o l r) = operation_of o (f l) (f r)
build f (Shift count part) = shift count (f part)

-- the terms of the first n nodes
unfoldable pub terms_below : List ℕ → ℕ → List Term
terms_below ws zero = []
terms_below ws (suc n) = terms_below ws n ++ (build (λ j. get_or (terms_below ws n) j (constant 0)) (view_of ws n) ∷ [])

-- the term of node i
unfoldable pub term_at : List ℕ → ℕ → Term
term_at ws i = get_or (terms_below ws (suc i)) i (constant 0)

-- node i is in order: its parts come before it, and a variable is below the bound
abbrev pub InOrder : ℕ → Node → Type 0
InOrder i (Constant c) = Unit {0}
InOrder i (Variable v) = v < most_variables
InOrder i (Pair o l r) = (l < i) × (r < i)
InOrder i (Shift count part) = part < i

-- ---- what is kept beside a node, so that no walk is needed
-- no mask or shift stands in a term
unfoldable pub plain : Term → Bool
plain (constant c) = true
plain (variable v) = true
plain (sum s t) = plain s && plain t
plain (difference s t) = plain s && plain t
plain (mask s t) = false
plain (shift count s) = false

-- a size, up to one more than a register's term may have
abbrev pub size_cap : ℕ
size_cap = most_term_nodes + 1

abbrev pub capped : ℕ → ℕ
capped n = min n size_cap

-- the facts of a term in one number: its tag, whether it is closed, whether it is so and plain, whether it is plain, and its size
abbrev pub facts_from : (tag : ℕ) (is_closed is_plain : Bool) (nodes : ℕ) → ℕ
facts_from tag is_closed is_plain nodes = tag + 8 * from_bool is_closed + 16 * from_bool (is_closed && is_plain) + 32 * from_bool is_plain + 64 * capped nodes

unfoldable pub facts_of : Term → ℕ
facts_of t = facts_from (root_of t).tag (closed t) (plain t) (size t)

-- whether a node of a term holds a value: the term is closed and plain
abbrev pub holds_of : Term → Bool
holds_of t = closed t && plain t

-- the value that a node of a term holds; 0 where it holds none
unfoldable pub value_of : Term → ℕ
value_of t = from_bool (holds_of t) * eval (λ v. 0) t

-- the value of an operation on two words
abbrev pub pair_value : Operation → (a b : ℕ) → ℕ
pair_value Sum = add_w
pair_value Difference = sub_w
pair_value Mask = mask_w

-- node i's marks are right: the lower half are its term's facts, the upper half is a node, i or before it, of the same term
pub record Marked (ws : List ℕ) (i : ℕ) : Type 0 where
  pub facts : low (marks_at ws i) ≡ facts_of (term_at ws i)
  pub before : high (marks_at ws i) ≤ i
  pub twin : term_at ws (high (marks_at ws i)) ≡ term_at ws i

-- the first top nodes lie within the table, each is in order, and its marks are right
pub record Shaped (ws : List ℕ) (top : ℕ) : Type 0 where
  pub words : least_workspace ≤ length ws
  pub fits : top ≤ most_table_nodes
  pub nodes : (i : ℕ) → i < top → InOrder i (view_of ws i)
  pub marked : (i : ℕ) → i < top → Marked ws i

-- and its value is right: this is the table, but while linear forms are compared
pub record Formed (ws : List ℕ) (top : ℕ) : Type 0 where
  pub shaped : Shaped ws top
  pub values : (i : ℕ) → i < top → value_at ws i ≡ value_of (term_at ws i)

-- room for n more nodes above top
pub record Space (ws : List ℕ) (top n : ℕ) : Type 0 where
  pub words : least_workspace ≤ length ws
  pub fits : top + n ≤ most_table_nodes

-- node top is put, with the term t, above a table of top nodes
pub record Put (ws us : List ℕ) (top : ℕ) (t : Term) : Type 0 where
  pub kept : Same 0 (place top) ws us
  pub formed : Formed us (suc top)
  pub is : term_at us top ≡ t

-- the words of a new node fit the table: its parts are before it, and its facts and value are its term's
abbrev pub term_of : (ws : List ℕ) (parts value facts : ℕ) → Term
term_of ws parts value facts = build (term_at ws) (node_of_tag (facts % 8) parts value)

pub record Fits (ws : List ℕ) (top parts value facts : ℕ) : Type 0 where
  pub order : InOrder top (node_of_tag (facts % 8) parts value)
  pub facts_are : facts ≡ facts_of (term_of ws parts value facts)
  pub value_is : value ≡ value_of (term_of ws parts value facts)

-- the node for these words: one before top that has them, or top itself; of the words only a hint is changed
pub record Twinned (ws us : List ℕ) (top parts value facts n : ℕ) : Type 0 where
  pub kept : Same 0 hint_base ws us
  pub found : (n ≡ top) ⊎ ((n < top) × (view_of ws n ≡ node_of_tag (facts % 8) parts value))
