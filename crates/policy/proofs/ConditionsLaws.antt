-- The ways out of the functions that read the conditions. Assumes nothing.
use Prim.Native.Nat.{ℕ, ◌≤◌, max}
use mathlib.Core.Path.{◌≡◌, refl, ◌∙◌}
use mathlib.Core.List.{List}
use native.Mathlib.Omega.{arith}
use lib.ListN.{length}
use borrow.Author.Tests.{eq-eqb, ne_eqb}
use Rattle.std.specs.Prelude.{IfOk}
use Rattle.model.specs.Result.{Result, Err, Ok, ◌>>=◌, check, map_err}
use Rattle.model.specs.Atom.{Atom}
use Rattle.model.specs.declared.ReadError.{ReadError}
use Rattle.model.specs.Policy.{policy_field, policy_refusal}
use Rattle.model.specs.declared.Sizes.{Sizes}
use Rattle.model.specs.declared.Refusal.{Refusal}
use Rattle.model.specs.declared.Refusal.TheVariants.{PolicyLength}
use Rattle.expressions.specs.Reading.{ends}
use Rattle.expressions.proofs.ReadingLaws.{read_next}
use Rattle.policy.specs.declared.Condition.{Condition}
use Rattle.policy.specs.Conditions.{atoms_of, condition_at, atoms_in, condition_end, conditions_of, conditions_result, Stands}

-- read_condition
module _ (bytes : List ℕ) (c : Condition) where
  -- where the atoms end, with an error as the policy's refusal, is where the condition ends
  pub condition_read : (r : Result ℕ Refusal) → r ≡ map_err (policy_refusal bytes) (ends (condition_at bytes c.atoms c.at)) → r ≡ condition_end bytes c
  unfolding ends ◌>>=◌ map_err condition_end
  condition_read r is = is ∙ same_end (condition_at bytes c.atoms c.at)
    where
      same_end : (m : Result (List Atom × ℕ) ReadError) → map_err (policy_refusal bytes) (ends m) ≡ (policy_field bytes m >>= λ a. Ok a.1)
      same_end (Err e) = refl
      same_end (Ok a) = refl

  pub condition_stands : (m : Result ℕ ReadError) (r : Result ℕ Refusal) → m ≡ ends (condition_at bytes c.atoms c.at) → r ≡ map_err (policy_refusal bytes) (ends (condition_at bytes c.atoms c.at)) → c.at ≤ length bytes → IfOk m (λ next. next ≤ max c.at (length bytes)) → IfOk r (Stands bytes c)
  unfolding map_err atoms_in atoms_of
  condition_stands (Err e) r h is l i = rw (is, ← h) tt
  condition_stands (Ok next) r h is l i = rw (is, ← h) (record { read = rw (read_next (condition_at bytes c.atoms c.at) next h).1; inside = omega arith })

-- read_conditions
-- a condition whose end is refused
end_stops : (bytes : List ℕ) (c : Condition) (x : Refusal) → Err x ≡ condition_end bytes c → policy_field bytes (condition_at bytes c.atoms c.at) ≡ Err x
unfolding condition_end ◌>>=◌
end_stops bytes c x h = go (policy_field bytes (condition_at bytes c.atoms c.at)) h
  where
    go : (m : Result (List Atom × ℕ) Refusal) → Err x ≡ (m >>= (λ a. Ok a.1)) → m ≡ Err x
    go (Err y) f = let g : y ≡ x = cc in rw g
    go (Ok a) f = absurd (cc)

module _ (bytes : List ℕ) (s : Sizes) (start : ℕ) where
  -- the first condition, and the second from a position on
  abbrev first : Condition
  first = record { at = start; atoms = s.precondition }

  abbrev second : (p : ℕ) → Condition
  second p = record { at = p; atoms = s.postcondition }

  pub first_stops : (x : Refusal) → Err x ≡ condition_end bytes first → conditions_result bytes (Err x) ≡ conditions_of bytes s start
  unfolding conditions_of conditions_result ◌>>=◌
  first_stops x e = rw (end_stops bytes first x e)

  module _ (p : ℕ) (f : Stands bytes first p) where
    pub second_stops : (x : Refusal) → Err x ≡ condition_end bytes (second p) → conditions_result bytes (Err x) ≡ conditions_of bytes s start
    unfolding conditions_of conditions_result ◌>>=◌ map_err
    second_stops x e = rw (f.read, end_stops bytes (second p) x e)

    module _ (q : ℕ) (g : Stands bytes (second p) q) where
      pub spare : (q ≡ length bytes → ⊥) → conditions_result bytes (Err (PolicyLength q)) ≡ conditions_of bytes s start
      unfolding conditions_of conditions_result ◌>>=◌ map_err check
      spare n = rw (f.read, g.read, ne_eqb q (length bytes) n)

      pub both : q ≡ length bytes → conditions_result bytes (Ok (first, second p)) ≡ conditions_of bytes s start
      unfolding conditions_of conditions_result ◌>>=◌ map_err check
      both h = rw (f.read, g.read, eq-eqb q (length bytes) h)
