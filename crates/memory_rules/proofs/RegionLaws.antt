-- Laws of the rules of memory. Assumes nothing.
use mathlib.Core.Path.{◌≡◌, sym}
use mathlib.Core.Bool.{true}
use mathlib.Core.Option.{some}
use mathlib.Core.List.{List, [], ◌∷◌}
use Prim.Native.Nat.{ℕ, ◌+◌, ◌<◌}
use native.Mathlib.Omega.{arith}
use lib.ListN.{length, get_or, get_elem?}
use Rattle.model.specs.Result.{Ok}
use Rattle.model.specs.Term.{Term, constant}
use Rattle.model.specs.Atom.{at_most, less}
use Rattle.model.specs.Policy.{Policy}
use Rattle.model.specs.Goals.{Goal, Claim as Claimed}
use Rattle.model.specs.Rule.{readable_of, writable_of, region_premises, premises}
use Rattle.model.specs.declared.Region.{Region}
use Rattle.model.specs.declared.Right.{Right}
use Rattle.model.proofs.Lists.{get_inside}
use Rattle.claims.specs.Parts.{access_of}
use Rattle.claims.proofs.StepLaws.{past_last, steps}
use Rattle.rights.specs.Right.{grants_throughout}
use Rattle.memory_rules.specs.Access.{region_rule}

-- ---- the region of a number
pub inside : {A : Type 0} (xs : List A) (i : ℕ) (d : A) → i < length xs → some (get_or xs i d) ≡ get_elem? xs i
inside xs i d h = sym (get_inside xs i d h)

pub ruleset places = (past_last, inside)

-- the premises of a claim that asks for the right, in a region that gives it
pub in_region : (policy : Policy) (g : Goal) {regions : List Region} {r : Region} {j : ℕ} {asked : Right} {t : Term} (right : Right) (c : Claimed) → policy.regions ≡ regions → j < length regions → r ≡ get_or regions j r → true ≡ grants_throughout right regions r → asked ≡ right
    → Ok (asked, t) ≡ access_of c → Ok (at_most (constant r.base) t ∷ less t (constant (r.base + r.size)) ∷ []) ≡ premises policy g (region_rule right j) c
unfolding premises region_premises readable_of writable_of
in_region policy g right c o l e k a h = grind (arith, steps, places)
