-- The policy's two conditions: their reading, in the definitions' terms. Assumes nothing.
use Rattle.std.specs.Prelude.{ℕ, ◌≤◌, ◌≡◌, List, [], length, eqb}
use Rattle.model.specs.Result.{Result, Err, Ok, ◌>>=◌, check, map_ok}
use Rattle.model.specs.Atom.{Atom}
use Rattle.model.specs.declared.ReadError.{ReadError}
use Rattle.model.specs.Expression.{register_count, atoms_at}
use Rattle.model.specs.Policy.{policy_field}
use Rattle.model.specs.declared.Sizes.{Sizes}
use Rattle.model.specs.declared.Refusal.{Refusal}
use Rattle.model.specs.declared.Refusal.TheVariants.{PolicyLength}
use Rattle.policy.specs.declared.Condition.{Condition}

-- the atoms that a reading gives, and none where it stops
unfoldable pub atoms_of : Result (List Atom × ℕ) ReadError → List Atom
atoms_of (Err e) = []
atoms_of (Ok (atoms, q)) = atoms

module _ (bytes : List ℕ) where
  -- so many atoms of a policy, from a position on, and the next position
  abbrev pub condition_at : (count p : ℕ) → Result (List Atom × ℕ) ReadError
  condition_at count p = atoms_at bytes (length bytes) register_count count p

  -- the atoms of a condition
  unfoldable pub atoms_in : Condition → List Atom
  atoms_in c = atoms_of (condition_at c.atoms c.at)

  -- the position after a condition
  unfoldable pub condition_end : Condition → Result ℕ Refusal
  condition_end c = do
    (atoms, q) ← policy_field bytes (condition_at c.atoms c.at)
    Ok q

  -- both conditions, from a position on, and nothing after them
  unfoldable pub conditions_of : Sizes → (start : ℕ) → Result (List Atom × List Atom) Refusal
  conditions_of s start = do
    (pre, p) ← policy_field bytes (condition_at s.precondition start)
    (post, q) ← policy_field bytes (condition_at s.postcondition p)
    _ ← check (eqb q (length bytes)) (PolicyLength q)
    Ok (pre, post)

  -- both conditions read, or why the policy is refused
  unfoldable pub conditions_result : Result (Condition × Condition) Refusal → Result (List Atom × List Atom) Refusal
  conditions_result r = map_ok (λ x. (atoms_in x.0, atoms_in x.1)) r

  -- a condition is read whole, up to the next position
  pub record Stands (c : Condition) (next : ℕ) : Type 0 where
    pub read : condition_at c.atoms c.at ≡ Ok (atoms_in c, next)
    pub inside : next ≤ length bytes

  -- both conditions are read whole: as many atoms as the sizes say, from the start to the end of the bytes
  pub record BothStand (s : Sizes) (start : ℕ) (pre post : Condition) : Type 0 where
    pub starts : pre.at ≡ start
    pub first : pre.atoms ≡ s.precondition
    pub second : post.atoms ≡ s.postcondition
    pub precondition_read : Stands pre post.at
    pub postcondition_read : Stands post (length bytes)
