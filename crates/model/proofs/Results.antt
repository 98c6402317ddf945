-- Laws of computations that give a value or stop: steps in sequence, and what a value says of the steps before it. Assumes nothing.
use Prim.Native.Nat.{ℕ}
use mathlib.Core.Path.{◌≡◌, refl, ap}
use mathlib.Core.Bool.{Bool, true, false}
use native.Mathlib.Omega.{arith}
use Rattle.std.specs.Result.{MatchResult, IsErrAnd}
use Rattle.model.specs.Result.{Result, Err, Ok, ◌>>=◌, check, map_err}

module _ {E A B C : Type 0} where
  pub then_then : (r : Result A E) (f : A → Result B E) (g : B → Result C E) → (r >>= f >>= g) ≡ (r >>= (λ a. f a >>= g))
  unfolding ◌>>=◌
  then_then (Err e) f g = refl
  then_then (Ok a) f g = refl

module _ {E A B : Type 0} where
  pub value_then : (a : A) (f : A → Result B E) → (Ok a >>= f) ≡ f a
  unfolding ◌>>=◌
  value_then a f = refl

  pub then_same : (r : Result A E) {f g : A → Result B E} → ((a : A) → f a ≡ g a) → (r >>= f) ≡ (r >>= g)
  unfolding ◌>>=◌
  then_same (Err e) s = refl
  then_same (Ok a) s = s a

  -- two steps give a value only if each does
  pub bound : (r : Result A E) (f : A → Result B E) {b : B} → (r >>= f) ≡ Ok b → (a : A) × (r ≡ Ok a) × (f a ≡ Ok b)
  unfolding ◌>>=◌
  bound (Err e) f p = let z : ◌≡◌ {A = ℕ} 0 1 = cc in absurd (omega arith)
  bound (Ok a) f p = (a, refl, p)

-- a test that is gone past has passed
pub past_check : {E : Type 0} (t : Bool) (e : E) {u : Unit {0}} → check t e ≡ Ok u → t ≡ true
unfolding check
past_check true e p = refl
past_check false e p = let z : ◌≡◌ {A = ℕ} 0 1 = cc in absurd (omega arith)

-- a value is the same, whatever a stop would be in other terms
pub past_stop : {E F A : Type 0} (f : E → F) (r : Result A E) {a : A} → map_err f r ≡ Ok a → r ≡ Ok a
unfolding map_err
past_stop f (Err e) p = let z : ◌≡◌ {A = ℕ} 0 1 = cc in absurd (omega arith)
past_stop f (Ok b) p = cc

-- a step that stops hands its error on: what the exit of a `?` returns
pub stopped : {A E : Type 0} (r : Result A E) (e : E) → IsErrAnd r (λ x. x ≡ e) → r ≡ Err e
stopped (Err x) e h = rw h
stopped (Ok a) e h = absurd h

-- an error that a closure turned into another, where the computation is known as n
module _ {A E F : Type 0} {P : E → F → Type 0} (f : E → F) where
  turned : (m : Result A E) (r : Result A F) → MatchResult m (λ a. r ≡ Ok a) (λ e. IsErrAnd r (P e)) → ((e : E) (x : F) → P e x → x ≡ f e) → r ≡ map_err f m
  unfolding map_err
  turned (Ok a) r e says = e
  turned (Err e) (Ok a) p says = elim p [ ]
  turned (Err e) (Err x) p says = ap Err (says e x p)

  pub mapped : (m n : Result A E) (r : Result A F) → m ≡ n → MatchResult m (λ a. r ≡ Ok a) (λ e. IsErrAnd r (P e)) → ((e : E) (x : F) → P e x → x ≡ f e) → r ≡ map_err f n
  mapped m n r same cases says = rw same at (turned m r cases says)
