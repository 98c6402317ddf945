-- Laws of the steps of a `do` block. Assumes nothing.
use mathlib.Core.Path.{◌≡◌, sym, ap, ◌∙◌}
use mathlib.Core.Bool.{Bool, true, false}
use mathlib.Core.Option.{Option, none, some}
use Rattle.model.specs.Result.{Result, Err, Ok, ◌>>=◌, check, found}

-- ---- the steps of a `do` block
module _ {E A B : Type 0} {r : Result A E} (f : A → Result B E) where
  pub stops : {e : E} → Err e ≡ r → Err e ≡ (r >>= f)
  unfolding ◌>>=◌
  stops h = ap (λ x. x >>= f) h

  pub goes_on : {a : A} {x : Result B E} → Ok a ≡ r → x ≡ f a → x ≡ (r >>= f)
  unfolding ◌>>=◌
  goes_on h k = k ∙ ap (λ x. x >>= f) h

module _ {E B : Type 0} {test : Bool} (e : E) (f : Unit {0} → Result B E) where
  pub check_fails : test ≡ false → Err e ≡ (check test e >>= f)
  unfolding ◌>>=◌ check
  check_fails h = rw h

  pub check_passes : {x : Result B E} → test ≡ true → x ≡ f tt → x ≡ (check test e >>= f)
  unfolding ◌>>=◌ check
  check_passes h k = rw h k

pub failed : {E : Type 0} {x test : Bool} (e : E) → x ≡ test → x ≡ false → Err e ≡ check test e
unfolding check
failed e h k = rw (sym h ∙ k)

module _ {E A : Type 0} {o : Option A} (e : E) where
  pub not_found : o ≡ none → Err e ≡ found o e
  unfolding found
  not_found h = rw h

  pub is_found : {a : A} → o ≡ some a → Ok a ≡ found o e
  unfolding found
  is_found h = rw h
