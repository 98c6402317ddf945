-- What was read, taken apart: atoms, an annotation. Assumes nothing.
use mathlib.Core.Path.{◌≡◌, sym, ap, subst, ◌∙◌}
use mathlib.Core.List.{List, [], ◌∷◌}
use Prim.Native.Nat.{ℕ, suc, ◌+◌, ◌-◌, ◌<◌}
use native.Mathlib.Omega.{arith}
use Rattle.model.specs.Result.{Result, Ok}
use Rattle.model.specs.Atom.{Atom}
use Rattle.model.specs.Expression.{atom_at, atoms_at}
use Rattle.model.proofs.Results.{bound}

-- two values that are one
pub same_value : {E A : Type 0} {a b : A} → ◌≡◌ {A = Result A E} (Ok a) (Ok b) → a ≡ b
same_value e = cc

module _ (bytes : List ℕ) (end limit : ℕ) where
  -- atoms that are read: none, or one and then the others
  pub no_atoms : {number next : ℕ} (at : ℕ) {atoms : List Atom} → number ≡ 0 → atoms_at bytes end limit number at ≡ Ok (atoms, next) → [] ≡ atoms
  unfolding atoms_at
  no_atoms {next = next} at {atoms} n e = ap (λ x. x.0) (same_value (ap (λ m. atoms_at bytes end limit m at) (sym n) ∙ e))

  -- the atom a is read, up to q, and the others from there
  pub record OneRead (others q next : ℕ) (a : Atom) (atoms : List Atom) : Type 0 where
    pub rest : List Atom
    pub later : atoms_at bytes end limit others q ≡ Ok (rest, next)
    pub all : a ∷ rest ≡ atoms

  one_read : (others at : ℕ) {next : ℕ} {atoms : List Atom} → atoms_at bytes end limit (suc others) at ≡ Ok (atoms, next) → (x : Atom × ℕ) × (atom_at bytes end limit at ≡ Ok x) × OneRead others x.1 next x.0 atoms
  unfolding atoms_at
  one_read others at {next} {atoms} e =
      let (x, one, then) = bound _ _ e in
      let (y, later, whole) = bound _ _ then in
      let pair : ◌≡◌ {A = List Atom × ℕ} (x.0 ∷ y.0, y.1) (atoms, next) = same_value whole in
      (x, one, record { rest = y.0; later = later ∙ ap (λ z. Ok (y.0, z.1)) pair; all = ap (λ z. z.0) pair })

  -- so many atoms have been read, and others are left
  module _ (at : ℕ) {passed number next : ℕ} {atoms : List Atom} (h : passed < number) (e : atoms_at bytes end limit (number - passed) at ≡ Ok (atoms, next)) where
    pub first_atom : (x : Atom × ℕ) × (atom_at bytes end limit at ≡ Ok x) × OneRead (number - (passed + 1)) x.1 next x.0 atoms
    first_atom = let one_left : number - passed ≡ suc (number - (passed + 1)) = omega arith in one_read (number - (passed + 1)) at (rw one_left at e)

    pub after_atom : {a : Atom} {q : ℕ} → atom_at bytes end limit at ≡ Ok (a, q) → OneRead (number - (passed + 1)) q next a atoms
    after_atom one = subst (λ (z : Atom × ℕ). OneRead (number - (passed + 1)) z.1 next z.0 atoms) (same_value (sym first_atom.1 ∙ one)) first_atom.2
