-- Derivations in terms of the workspace: what they need, and what they owe. Assumes nothing.
use Rattle.std.specs.Prelude.{◌≡◌, List, ℕ, ◌+◌, ◌*◌, ◌<◌, ◌≤◌, length, IfOk}
use Rattle.std.specs.List.{All}
use Rattle.model.specs.Result.{Result, Ok, map_err, ◌>>=◌, map_ok}
use Rattle.model.specs.Atom.{Atom}
use Rattle.model.specs.Policy.{Policy}
use Rattle.model.specs.Goals.{Goal, Claim as Claimed, register_variables}
use Rattle.model.specs.Rule.{premises}
use Rattle.model.specs.Derivation.{rule_at, derive}
use Rattle.model.specs.declared.Refusal.{Refusal}
use Rattle.model.specs.declared.Refusal.TheVariants.{UnfitRule}
use Rattle.model.specs.Expression.{register_count}
use Rattle.workspace.specs.Layout.{Same, most_variables}
use Rattle.workspace.specs.Room.{new_nodes, level_room}
use Rattle.nodes.specs.Atoms.{atom_in, AtomBelow}
use Rattle.nodes.specs.Table.{place, Formed, Space}
use Rattle.nodes.specs.declared.Atom.{Atom as NodeAtom}
use Rattle.term_reader.specs.Reader.{RegisterTerms}
use Rattle.assumptions.specs.Area.{listed, Listed}
use Rattle.forms.specs.Area.{Cleared}
use Rattle.claims.specs.Parts.{claim_of, ClaimBelow}
use Rattle.model_laws.specs.Bounded.{AtomBounded, ClaimBounded}
use Rattle.claims.specs.Plan.{listed as premises_listed, premises_of}
use Rattle.claims.specs.Regions.{RegionList}
use Rattle.claims.specs.Rules.{RuleBelow}
use Rattle.rule_reader.specs.Opening.{register_nodes}
use Rattle.claims.specs.declared.Claim.{Claim}
use Rattle.claims.specs.declared.Scope.{Scope}
use Rattle.claims.specs.declared.Plan.{Plan}
use Rattle.claims.specs.declared.Rule.{Rule}
use Rattle.model.specs.declared.Region.{Region}

-- the policy and the goal whose regions, assumptions and number of variables these are
pub record Judged (regions : List Region) (ws : List ℕ) (scope : Scope) (policy : Policy) (g : Goal) : Type 0 where
  pub regions_are : policy.regions ≡ regions
  pub assumptions : g.assumptions ≡ listed ws scope.assumptions
  pub variables : g.variables ≡ scope.variables

-- the workspace below top: nodes 0 to 15 are variables 0 to 15, the assumptions are nodes of the table, the coefficients' area is free
pub record Prepared (ws : List ℕ) (top : ℕ) (scope : Scope) : Type 0 where
  pub formed : Formed ws top
  pub above : register_count ≤ top
  pub registers : RegisterTerms ws register_nodes register_variables
  pub most : scope.variables ≤ most_variables
  pub assumed : Listed ws scope.assumptions top
  pub cleared : Cleared ws

-- what a rule's plan needs
pub record Plannable (ws : List ℕ) (regions : List Region) (scope : Scope) (rule : Rule) (claim : Claim) (top : ℕ) : Type 0 where
  pub prepared : Prepared ws top scope
  pub regions_fit : RegionList regions
  pub space : Space ws top new_nodes
  pub below : ClaimBelow top claim
  pub bounded : ClaimBounded scope.variables (claim_of ws claim)
  pub held : RuleBelow top rule

-- what a derivation of at most so many levels needs
pub record Derivable (ws : List ℕ) (regions : List Region) (scope : Scope) (levels top : ℕ) (claim : Claim) : Type 0 where
  pub prepared : Prepared ws top scope
  pub regions_fit : RegionList regions
  pub space : Space ws top (level_room * levels)
  pub below : ClaimBelow top claim
  pub bounded : ClaimBounded scope.variables (claim_of ws claim)

-- ---- one rule
-- the rule at p and its premises for a claim: the premises and the next position
unfoldable pub applied : (bytes : List ℕ) → Policy → Goal → Claimed → (p : ℕ) → Result (List Atom × ℕ) Refusal
applied bytes policy g claim p = do
  (rule, q) ← rule_at bytes g.variables p
  atoms ← map_err (λ _. UnfitRule p) (premises policy g rule claim)
  Ok (atoms, q)

-- the plan that has been filled, and the next position
abbrev pub opened_in : Result ℕ Refusal → Plan → Result (Plan × ℕ) Refusal
opened_in r p = map_ok (λ next. (p, next)) r

-- the premises that an answer says in the words us
abbrev pub applied_in : List ℕ → Result (Plan × ℕ) Refusal → Result (List Atom × ℕ) Refusal
applied_in us r = map_ok (λ x. (premises_of us x.0, x.1)) r

-- a premise's nodes are below top, its variables among the first n
pub record PremiseWithin (us : List ℕ) (top n : ℕ) (a : NodeAtom) : Type 0 where
  pub below : AtomBelow top a
  pub bounded : AtomBounded n (atom_in us a)

-- a plan over a table that has grown from top, by the nodes of one level at most, and the position after the rule at p
pub record Standing (bytes us : List ℕ) (n top at : ℕ) (p : Plan) (next : ℕ) : Type 0 where
  pub formed : Formed us p.top
  pub above : top ≤ p.top
  pub few : p.top ≤ top + level_room
  pub within : All (PremiseWithin us p.top n) (premises_listed p)
  pub onward : (at < next) × (next ≤ length bytes)

-- the answer is the definition's, and every word below the top is kept
pub record Applies (bytes : List ℕ) (regions : List Region) (ws us : List ℕ) (scope : Scope) (top : ℕ) (claim : Claim) (at : ℕ) (r : Result (Plan × ℕ) Refusal) : Type 0 where
  pub says : (policy : Policy) (g : Goal) → Judged regions ws scope policy g → applied_in us r ≡ applied bytes policy g (claim_of ws claim) at
  pub kept : Same 0 (place top) ws us
  pub standing : IfOk r (λ x. Standing bytes us scope.variables top at x.0 x.1)

-- ---- derivations
-- The answer is the definition's, for every policy and goal with these regions, assumptions and variables; every word below the top is
-- kept; the position after a derivation is past its start, and within the bytes.
pub record Derives (bytes : List ℕ) (regions : List Region) (ws us : List ℕ) (scope : Scope) (levels top : ℕ) (claim : Claim) (at : ℕ) (r : Result ℕ Refusal) : Type 0 where
  pub answer : (policy : Policy) (g : Goal) → Judged regions ws scope policy g → r ≡ derive bytes policy g levels (claim_of ws claim) at
  pub kept : Same 0 (place top) ws us
  pub onward : IfOk r (λ q. (at < q) × (q ≤ length bytes))
