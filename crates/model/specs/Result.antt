-- A computation that gives a value, Ok, or stops with an error, Err. Assumes nothing.
use Rattle.std.specs.Prelude.{Bool, true, false}
use Rattle.std.proofs.Math.Option.{Option, none, some}
use Rattle.model.specs.declared.Misfit.{Misfit}
-- passed on to users of this module
pub use Rattle.std.specs.Prelude.{Result, Ok, Err}

-- the second computation goes on from the value of the first
infixl 20 ◌>>=◌
unfoldable pub ◌>>=◌ : {A B E : Type 0} → Result A E → (A → Result B E) → Result B E
Err e >>= f = Err e
Ok a >>= f = f a

-- go on only where the test passes
unfoldable pub check : {E : Type 0} → Bool → E → Result (Unit {0}) E
check true e = Ok tt
check false e = Err e

-- go on with what is there
unfoldable pub found : {A E : Type 0} → Option A → E → Result A E
found none e = Err e
found (some a) e = Ok a

-- the value in other terms
abbrev pub map_ok : {A B E : Type 0} → (A → B) → Result A E → Result B E
map_ok f (Err e) = Err e
map_ok f (Ok a) = Ok (f a)

-- the error in other terms
unfoldable pub map_err : {A E F : Type 0} → (E → F) → Result A E → Result A F
map_err f (Err e) = Err (f e)
map_err f (Ok a) = Ok a

-- a value where what is looked at has the form that is asked for, and else nothing more to say
abbrev pub Fit : Type 0 → Type 0
Fit A = Result A Misfit

abbrev pub misfit : Misfit
misfit = record {}
