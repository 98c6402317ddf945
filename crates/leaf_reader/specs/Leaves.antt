-- What reading into the term table answers and needs, and what the readers of a constant and of a variable owe. Assumes nothing.
use Rattle.std.specs.Prelude.{true, false, List, ℕ, ◌+◌, ◌<◌, ◌≤◌, ltb, get_or, IfOk}
use Rattle.model.specs.Result.{Result, map_ok}
use Rattle.model.specs.Term.{Term, constant, variable, sum, difference, mask, shift}
use Rattle.model.specs.declared.ReadError.{ReadError}
use Rattle.model.specs.Expression.{Form, Nodes, node_of, register_count}
use Rattle.workspace.specs.Layout.{Same}
use Rattle.nodes.specs.Table.{place, term_at, Formed, Space}
use Rattle.leaf_reader.specs.declared.Parsed.{Parsed}
use Rattle.leaf_reader.specs.declared.sources.Source.{Source}

-- ---- terms over others: σ v stands for variable v
unfoldable pub over : (σ : ℕ → Term) → Term → Term
over σ (constant c) = constant c
over σ (variable v) = σ v
over σ (sum s t) = sum (over σ s) (over σ t)
over σ (difference s t) = difference (over σ s) (over σ t)
over σ (mask s t) = mask (over σ s) (over σ t)
over σ (shift count s) = shift count (over σ s)

abbrev pub nodes_over : (σ : ℕ → Term) → Nodes → Nodes
nodes_over σ x = map_ok (λ y. (over σ y.0, y.1, y.2)) x

-- variable v in the table: the term of the register's node, if it is a register's, else itself
unfoldable pub variable_term : (ws registers : List ℕ) → ℕ → Term
variable_term ws registers v = elim (ltb v register_count) [ true ↦ term_at ws (get_or registers v 0) | false ↦ variable v ]

-- what stands in a source after a tag, by its form, over the terms of the registers in the words ws
abbrev pub node_in : (ws : List ℕ) → Source → (operand : (left p : ℕ) → Nodes) → Form → (left at : ℕ) → Nodes
node_in ws source operand form left at = nodes_over (variable_term ws source.registers) (node_of source.bytes.now source.end source.limit operand form left at)

-- what an answer says in the words us
abbrev pub nodes_answer : List ℕ → Result Parsed ReadError → Nodes
nodes_answer us r = map_ok (λ x. (term_at us x.node, x.next, x.left)) r

-- ---- the contracts
-- what a reader needs: a table with room for the nodes left, and registers that are nodes of it
pub record Ready (ws registers : List ℕ) (top left : ℕ) : Type 0 where
  pub formed : Formed ws top
  pub space : Space ws top left
  pub held : (v : ℕ) → v < register_count → get_or registers v 0 < top

-- the table after an expression is read: its node and the next position are within their bounds, and no more nodes are new than were used
pub record Above (us : List ℕ) (end top left : ℕ) (x : Parsed) : Type 0 where
  pub formed : Formed us x.top
  pub node_in_table : x.node < x.top
  pub next_in_bounds : x.next ≤ end
  pub grows : top ≤ x.top
  pub few : x.top + x.left ≤ top + left

-- the table after an answer: the words below the top are kept
pub record Grown (ws us : List ℕ) (end top left : ℕ) (r : Result Parsed ReadError) : Type 0 where
  pub kept : Same 0 (place top) ws us
  pub formed : Formed us top
  pub found : IfOk r (λ x. Above us end top left x)
