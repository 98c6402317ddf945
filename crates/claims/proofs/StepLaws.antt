-- The laws by which the tactic goes through the steps of a reading or of a rule to its plan. Assumes nothing.
use mathlib.Core.Path.{◌≡◌, refl}
use mathlib.Core.Bool.{true, false}
use mathlib.Core.Option.{none, some}
use mathlib.Core.List.{List, [], ◌∷◌}
use Prim.Native.Nat.{ℕ, zero, suc, ◌≤◌}
use native.Mathlib.Omega.{arith}
use lib.ListN.{length, get_elem?}
use Rattle.std.specs.List.{All}
use Rattle.std.proofs.lemmas.List.Elements.{All-nil}
use Rattle.model.specs.Result.{Result, Err, Ok, ◌>>=◌, check, found}
use Rattle.nodes.specs.Atoms.{AtomBelow}
use Rattle.nodes.specs.declared.Atom.{Atom as NodeAtom}
use Rattle.claims.proofs.PlanLaws.{stays}

module _ {E A B : Type 0} where
  pub after_ok : (a : A) (f : A → Result B E) → (Ok a >>= f) ≡ f a
  unfolding ◌>>=◌
  after_ok a f = refl

  pub after_err : (e : E) (f : A → Result B E) → (Err e >>= f) ≡ Err e
  unfolding ◌>>=◌
  after_err e f = refl

module _ {E : Type 0} (e : E) where
  pub check_true : check true e ≡ Ok tt
  unfolding check
  check_true = refl

  pub check_false : check false e ≡ Err e
  unfolding check
  check_false = refl

  pub found_none : {A : Type 0} → found {A = A} none e ≡ Err e
  unfolding found
  found_none = refl

  pub found_some : {A : Type 0} (a : A) → found (some a) e ≡ Ok a
  unfolding found
  found_some a = refl

-- a list has nothing past its end
pub past_last : {A : Type 0} (xs : List A) (i : ℕ) → length xs ≤ i → get_elem? xs i ≡ none
past_last [] i h = refl
past_last (x ∷ xs) zero h = absurd (omega arith)
past_last (x ∷ xs) (suc i) h = past_last xs i (omega arith)

-- a plan of no premises
pub none_below : (high : ℕ) (l : List NodeAtom) → l ≡ [] → All (AtomBelow high) l
none_below high l h = rw h (All-nil (AtomBelow high))

pub ruleset steps = (after_ok, after_err, check_true, check_false, found_none, found_some, stays, none_below)
