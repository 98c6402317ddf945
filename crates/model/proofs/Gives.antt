-- What holds of every value that a computation gives, shown step by step along its `do` block. Assumes nothing.
use Prim.Native.Nat.{ℕ, zero, suc}
use mathlib.Core.Bool.{Bool, true, false}
use mathlib.Core.List.{List}
use mathlib.Core.Option.{Option, none, some}
use mathlib.Core.Path.{◌≡◌, refl, subst}
use lib.ListN.{get_elem?}
use Rattle.model.specs.Result.{Result, ◌>>=◌, check, found, map_err, Err, Ok}
use Rattle.model.proofs.Lists.{empty, Every, ◌&◌}

-- P holds of the value, if there is one
pub data Gives {E A : Type 0} (P : A → Type 0) : Result A E → Type 0 where
  stops : {e : E} → Gives P (Err e)
  gives : {a : A} → P a → Gives P (Ok a)

-- a step `a ← r` and what follows it
pub gives_then : {E A B : Type 0} {P : B → Type 0} {Q : A → Type 0} {r : Result A E} {f : A → Result B E}
    → Gives Q r → ((a : A) → Q a → Gives P (f a)) → Gives P (r >>= f)
unfolding ◌>>=◌
gives_then stops k = stops
gives_then (gives {a = a} q) k = k a q

-- the same, with the value's equation for what is known of it: `search` walks a block by this
pub gives_next : {E A B : Type 0} {P : B → Type 0} {r : Result A E} {f : A → Result B E} → ((a : A) → r ≡ Ok a → Gives P (f a)) → Gives P (r >>= f)
unfolding ◌>>=◌
gives_next {r = Err e} k = stops
gives_next {r = Ok a} k = k a refl

module _ {E : Type 0} where
  pub gives_check : (test : Bool) (e : E) → Gives (λ _. test ≡ true) (check test e)
  unfolding check
  gives_check true e = gives refl
  gives_check false e = stops

  module _ {A : Type 0} where
    -- of a value of which nothing need be known
    pub gives_any : (r : Result A E) → Gives (λ _. Unit {0}) r
    gives_any (Err e) = stops
    gives_any (Ok a) = gives tt

    -- what is found, where it is found
    pub gives_found : (o : Option A) (e : E) → Gives (λ a. o ≡ some a) (found o e)
    unfolding found
    gives_found none e = stops
    gives_found (some a) e = gives refl

    module _ {P : A → Type 0} where
      pub gives_map : {Q : A → Type 0} {r : Result A E} → ((a : A) → Q a → P a) → Gives Q r → Gives P r
      gives_map k stops = stops
      gives_map k (gives {a = a} q) = gives (k a q)

      -- an element of a list that is found at an index
      pub gives_element : {l : List A} (i : ℕ) (e : E) → Every P l → Gives P (found (get_elem? l i) e)
      unfolding found
      gives_element i e empty = stops
      gives_element zero e (p & ps) = gives p
      gives_element (suc i) e (p & ps) = gives_element i e ps

      pub gives_as : {F : Type 0} {r : Result A E} (f : E → F) → Gives P r → Gives P (map_err f r)
      unfolding map_err
      gives_as f stops = stops
      gives_as f (gives p) = gives p

      pub gives_value : {r : Result A E} {a : A} → r ≡ Ok a → Gives P r → P a
      gives_value e h = from (subst (λ r. Gives P r) e h)
        where
          from : {a : A} → Gives {E = E} P (Ok a) → P a
          from (gives p) = p
