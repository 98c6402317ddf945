-- What a rule asks of a claim, in terms of the term table. Assumes nothing.
use Rattle.std.specs.Prelude.{◌≡◌, Bool, true, false, List, [], ℕ, ◌+◌, ◌≤◌, map, take, IfOk}
use Rattle.std.specs.List.{All}
use Rattle.model.specs.Result.{Result, Fit, misfit, Err, Ok, map_ok}
use Rattle.model.specs.Atom.{Atom}
use Rattle.model.specs.Policy.{Policy}
use Rattle.model.specs.Goals.{Goal, Claim as Claimed}
use Rattle.model.specs.Rule.{Rule, premises}
use Rattle.model.specs.declared.Misfit.{Misfit}
use Rattle.workspace.specs.Layout.{Same}
use Rattle.workspace.specs.Room.{new_nodes}
use Rattle.nodes.specs.Atoms.{atom_in, AtomBelow}
use Rattle.nodes.specs.Table.{place, Formed}
use Rattle.nodes.specs.declared.Atom.{Atom as NodeAtom}
use Rattle.claims.specs.declared.Plan.{Plan}

-- ---- plans
-- a plan's premises, in order
abbrev pub listed : Plan → List NodeAtom
listed p = take p.count p.premises

-- a plan of these premises, over a table with this top
pub record Plans (premises : List NodeAtom) (top : ℕ) (p : Plan) : Type 0 where
  pub premises_are : listed p ≡ premises
  pub top_is : p.top ≡ top

-- what a rule answers that has filled a plan: the plan, where the rule fits
abbrev pub filled : Result (Unit {0}) Misfit → Plan → Result Plan Misfit
filled r p = map_ok (λ _. p) r

-- the premises of an answer
abbrev pub lists : Result Plan Misfit → Fit (List NodeAtom)
lists r = map_ok listed r

-- the same of a rule without premises, by its test
abbrev pub none_where : Bool → Fit (List NodeAtom)
none_where true = Ok []
none_where false = Err misfit

-- ---- what a plan says in the words us
abbrev pub premises_of : List ℕ → Plan → List Atom
premises_of us p = map (atom_in us) (listed p)

abbrev pub plan_of : List ℕ → Result Plan Misfit → Fit (List Atom)
plan_of us r = map_ok (premises_of us) r

-- ---- the contract
-- the words us keep those below top, and the table has grown to `high`, by a rule's new nodes at most
pub record Grows (ws us : List ℕ) (top high : ℕ) : Type 0 where
  pub kept : Same 0 (place top) ws us
  pub formed : Formed us high
  pub above : top ≤ high
  pub few : high ≤ top + new_nodes

-- the top after an answer: where nothing fits, nothing is added
abbrev pub top_after : (top : ℕ) → Result Plan Misfit → ℕ
top_after top (Ok p) = p.top
top_after top (Err e) = top

-- the answer is what is asked, wherever the policy and the goal are such as `Where` says; its premises are nodes of the table
pub record Planned (Where : Policy → Goal → Type 0) (asked : Policy → Goal → Fit (List Atom)) (ws us : List ℕ) (top : ℕ) (r : Result Plan Misfit) : Type 0 where
  pub says : (policy : Policy) (g : Goal) → Where policy g → plan_of us r ≡ asked policy g
  pub grows : Grows ws us top (top_after top r)
  pub below : IfOk r (λ p. All (AtomBelow p.top) (listed p))

-- ---- what is asked, and where
abbrev pub Anywhere : Policy → Goal → Type 0
Anywhere policy g = Unit {0}

-- where the goal's assumptions are these
abbrev pub Assuming : List Atom → Policy → Goal → Type 0
Assuming atoms policy g = g.assumptions ≡ atoms

-- the premises of a rule
abbrev pub asks : Rule → Claimed → Policy → Goal → Fit (List Atom)
asks rule c policy g = premises policy g rule c

-- a rule that goes by neither the policy nor the goal's assumptions
abbrev pub always : Fit (List Atom) → Policy → Goal → Fit (List Atom)
always s policy g = s
