-- Laws of the rules of arithmetic. Assumes nothing.
use mathlib.Core.Path.{◌≡◌, sym}
use mathlib.Core.Bool.{Bool}
use mathlib.Core.Option.{none, some}
use mathlib.Core.List.{List}
use Prim.Native.Nat.{ℕ, ◌<◌}
use native.Mathlib.Omega.{arith}
use Rattle.model.specs.Result.{Result, misfit, Err, Ok}
use Rattle.model.specs.Atom.{compares}
use Rattle.model.specs.Linear.{form_difference}
use Rattle.model.specs.Term.{Term, sum}
use Rattle.model.specs.Rule.{pair_of, sides_of}
use Rattle.model.proofs.Gives.{Gives, gives, gives_then, gives_check, gives_value}
use Rattle.model.proofs.Terms.{with_tag}
use Rattle.model.specs.declared.Comparison.{Comparison}
use Rattle.nodes.specs.Table.{term_at, Formed}
use Rattle.forms.specs.Area.{Comparable}
use Rattle.model_laws.proofs.Bounds.{sides_bounded}
use Rattle.claims.specs.Parts.{claim_of}
use Rattle.claims.specs.Plan.{filled, lists, none_where, Grows, Planned, Anywhere, always}
use Rattle.claims.proofs.StepLaws.{steps}
use Rattle.claims.specs.declared.Claim.{Claim}
use Rattle.claims.proofs.PlanLaws.{formed_at}
use Rattle.model.specs.Goals.{Claim as Claimed}
use Rattle.model.specs.declared.Misfit.{Misfit}
use Rattle.claims.specs.declared.Plan.{Plan}
use Rattle.arithmetic_rules.specs.Forms.{Linear}
use Rattle.arithmetic_rules.specs.Sides.{apart_premises}

-- a term that has the operands of a sum is their sum
sum_gives : (t : Term) → Gives (λ (s : Term × Term). t ≡ sum s.0 s.1) (pair_of 2 t)
unfolding pair_of
sum_gives t = gives_then (gives_check _ _) λ _ e. gives (sym (with_tag 2 t e))

pub sum_is : (t : Term) {a b : Term} → Ok (a, b) ≡ pair_of 2 t → t ≡ sum a b
sum_is t h = gives_value (sym h) (sum_gives t)

-- the sides of a claim can be compared as linear forms
pub comparable : {ws : List ℕ} {top a b variables : ℕ} (kind : Comparison) (claim : Claim) → Formed ws top → Ok (term_at ws a, term_at ws b) ≡ sides_of kind (claim_of ws claim) → (a < top) × (b < top) → Linear ws variables claim → Comparable ws a b variables
comparable {ws} kind claim f s j l =
    let k = gives_value (sym s) (sides_bounded _ kind (claim_of ws claim) l.bounded) in
    record { few = omega (arith, l.most); left = record { formed = formed_at f j.0; within = k.0 }; right = record { formed = formed_at f j.1; within = k.1 }; cleared = l.cleared }

-- rules 12 and 28, where the words keep the table: the sides' forms have a difference, or none
module _ {ws us : List ℕ} {top : ℕ} (kind : Comparison) (c : Claimed) {s t : Term} (sides : Ok (s, t) ≡ sides_of kind c) (grows : Grows ws us top top) where
  pub apart_planned : (r : Result (Unit {0}) Misfit) (p : Plan) {d : ℕ} {test : Bool} → some d ≡ form_difference s t → test ≡ compares kind d 0 → lists (filled r p) ≡ none_where test → p.top ≡ top
      → Planned Anywhere (always (apart_premises kind c)) ws us top (filled r p)
  unfolding apart_premises
  apart_planned r p e f g h = grind (arith, steps)

  pub unlike_refused : none ≡ form_difference s t → Planned Anywhere (always (apart_premises kind c)) ws us top (Err misfit)
  unfolding apart_premises
  unlike_refused e = grind (arith, steps)
