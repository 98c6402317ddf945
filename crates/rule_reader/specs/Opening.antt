-- A rule read from the proof, in terms of the term table. Assumes nothing.
use Rattle.std.specs.Prelude.{◌≡◌, List, ◌∷◌, [], ℕ, ◌+◌, ◌<◌, ◌≤◌, IfOk, MatchResult, Some, None}
use Rattle.std.specs.Prelude.{Option as Maybe}
use Rattle.std.proofs.Math.Option.{Option, none, some}
use Rattle.model.specs.Result.{Result, Err, Ok, map_ok}
use Rattle.model.specs.Term.{Term}
use Rattle.model.specs.Expression.{most_nodes, register_count}
use Rattle.model.specs.Goals.{register_variables}
use Rattle.model.specs.Rule.{Rule as Ruled, Format, plain, with_index, with_term, with_region}
use Rattle.model.specs.Derivation.{rule_at}
use Rattle.model.specs.declared.Refusal.{Refusal}
use Rattle.workspace.specs.Layout.{most_variables, Same}
use Rattle.nodes.specs.Table.{place, term_at, Formed, Space}
use Rattle.term_reader.specs.Reader.{RegisterTerms}
use Rattle.claims.specs.declared.Rule.{Rule}
use Rattle.claims.specs.Rules.{rule_in, RuleBelow}
use Rattle.rule_reader.specs.declared.Argument.{Argument}
use Rattle.rule_reader.specs.declared.Opened.{Opened}

-- ---- the rule of a row of the model's table of rules, with its argument: an index, a region's number or a node of the words us
abbrev pub rule_of_format : List ℕ → (argument : ℕ) → Format → Ruled
rule_of_format us n (plain rule) = rule
rule_of_format us n (with_index rule) = rule n
rule_of_format us n (with_term rule) = rule (term_at us n)
rule_of_format us n (with_region rule) = rule n

abbrev pub rule_of_row : List ℕ → (argument : ℕ) → Option Format → Option Ruled
rule_of_row us n none = none
rule_of_row us n (some format) = some (rule_of_format us n format)

-- ---- what an answer says in the words us
abbrev pub rule_answer : List ℕ → Maybe Rule → Option Ruled
rule_answer us None = none
rule_answer us (Some rule) = some (rule_in us rule)

abbrev pub term_answer : List ℕ → Result Argument Refusal → Result (Term × ℕ) Refusal
term_answer us r = map_ok (λ x. (term_at us x.value, x.next)) r

abbrev pub opened_answer : List ℕ → Result Opened Refusal → Result (Ruled × ℕ) Refusal
opened_answer us r = map_ok (λ o. (rule_in us o.rule, o.next)) r

-- what stands after a rule byte makes the rule of the byte's row, if there is one
abbrev pub ArgumentAnswer : (bytes us : List ℕ) (variables at : ℕ) → Option Format → Result Argument Refusal → Type 0
ArgumentAnswer bytes us variables at row r =
    MatchResult r (λ x. (format : Format) → row ≡ some format → Ok (rule_of_format us x.value format, x.next) ≡ rule_at bytes variables at) (λ e. Err e ≡ rule_at bytes variables at)

-- ---- the contracts
-- nodes 0 to 15
abbrev pub register_nodes : List ℕ
register_nodes = 0 ∷ 1 ∷ 2 ∷ 3 ∷ 4 ∷ 5 ∷ 6 ∷ 7 ∷ 8 ∷ 9 ∷ 10 ∷ 11 ∷ 12 ∷ 13 ∷ 14 ∷ 15 ∷ []

-- what reading a rule needs: nodes 0 to 15 are variables 0 to 15, there is room for an argument, and the variables are few
pub record Opening (ws : List ℕ) (variables top : ℕ) : Type 0 where
  pub formed : Formed ws top
  pub space : Space ws top most_nodes
  pub above : register_count ≤ top
  pub registers : RegisterTerms ws register_nodes register_variables
  pub most : variables ≤ most_variables

-- the table with a new top: no more nodes are new than an argument has
pub record Above (us : List ℕ) (top high : ℕ) : Type 0 where
  pub formed : Formed us high
  pub grows : top ≤ high
  pub few : high ≤ top + most_nodes

-- the table after an answer: the words below the top are kept, and an argument that is a node is below the new top
pub record TermGrown (ws us : List ℕ) (top : ℕ) (r : Result Argument Refusal) : Type 0 where
  pub kept : Same 0 (place top) ws us
  pub formed : Formed us top
  pub found : IfOk r (λ x. Above us top x.top × (x.value < x.top))

pub record ArgumentGrown (ws us : List ℕ) (top number : ℕ) (r : Result Argument Refusal) : Type 0 where
  pub kept : Same 0 (place top) ws us
  pub formed : Formed us top
  pub found : IfOk r (λ x. Above us top x.top × (4 < number → number < 9 → x.value < x.top) × (number ≡ 24 → x.value < x.top))

pub record OpenedGrown (ws us : List ℕ) (top : ℕ) (r : Result Opened Refusal) : Type 0 where
  pub kept : Same 0 (place top) ws us
  pub formed : Formed us top
  pub found : IfOk r (λ o. Above us top o.top × RuleBelow o.top o.rule)
