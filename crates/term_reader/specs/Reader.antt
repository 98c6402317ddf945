-- What the reader that builds expressions in the term table owes. Assumes nothing.
use Rattle.std.specs.Prelude.{◌≡◌, List, ℕ, ◌<◌, get_or}
use Rattle.model.specs.Result.{Result, map_ok}
use Rattle.model.specs.Term.{Term, constant}
use Rattle.model.specs.declared.ReadError.{ReadError}
use Rattle.model.specs.Expression.{Nodes, nodes_at, expression_at, register_count}
use Rattle.nodes.specs.Table.{term_at}
use Rattle.leaf_reader.specs.Leaves.{over, nodes_over, variable_term}
use Rattle.leaf_reader.specs.declared.Parsed.{Parsed}
use Rattle.leaf_reader.specs.declared.sources.Source.{Source}

-- ---- an expression over other terms
abbrev pub expression_over : (σ : ℕ → Term) → Result (Term × ℕ) ReadError → Result (Term × ℕ) ReadError
expression_over σ x = map_ok (λ y. (over σ y.0, y.1)) x

-- the registers' nodes have these terms
pub record RegisterTerms (ws registers : List ℕ) (terms : List Term) : Type 0 where
  pub is : (v : ℕ) → v < register_count → term_at ws (get_or registers v 0) ≡ get_or terms v (constant 0)

-- ---- what stands in a source, over the terms of the registers in the words ws
-- an expression of at most `left` nodes
abbrev pub nodes_in : (ws : List ℕ) → Source → (depth left at : ℕ) → Nodes
nodes_in ws source depth left at = nodes_over (variable_term ws source.registers) (nodes_at source.bytes.now source.end source.limit depth left at)

abbrev pub expression_in : (ws : List ℕ) → Source → (at : ℕ) → Result (Term × ℕ) ReadError
expression_in ws source at = expression_over (variable_term ws source.registers) (expression_at source.bytes.now source.end source.limit at)

-- ---- what an answer says in the words us
abbrev pub expression_answer : List ℕ → Result Parsed ReadError → Result (Term × ℕ) ReadError
expression_answer us r = map_ok (λ x. (term_at us x.node, x.next)) r
