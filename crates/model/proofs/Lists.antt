-- Lists: a property of every element, words in lists, elements that are set. Assumes nothing.
use Prim.Native.Nat.{ℕ, ◌<◌, zero, suc}
use mathlib.Core.List.{List, [], ◌∷◌, ◌++◌, map}
use mathlib.Core.Option.{some}
use mathlib.Core.Path.{◌≡◌, refl, ap, subst}
use native.Mathlib.Nat.{not-suc-le-zero, le_of_suc-le-suc}
use native.Mathlib.Omega.{arith}
use lib.ListN.{length, get_elem?, get_or, set}
use Rattle.model.specs.Word.{AllBelow}

-- ---- a property of every element

-- P holds of every element
infixr 20 ◌&◌
pub data Every {A : Type 0} (P : A → Type 0) : List A → Type 0 where
  empty : Every P []
  ◌&◌ : {a : A} {rest : List A} → P a → Every P rest → Every P (a ∷ rest)

module _ {A : Type 0} {P : A → Type 0} where
  pub every_head : {x : A} {xs : List A} → Every P (x ∷ xs) → P x
  every_head (p & h) = p

  pub every_tail : {x : A} {xs : List A} → Every P (x ∷ xs) → Every P xs
  every_tail (p & h) = h

  pub every_left : (xs ys : List A) → Every P (xs ++ ys) → Every P xs
  every_left [] ys h = empty
  every_left (x ∷ xs) ys (p & h) = p & every_left xs ys h

  pub every_right : (xs ys : List A) → Every P (xs ++ ys) → Every P ys
  every_right [] ys h = h
  every_right (x ∷ xs) ys (p & h) = every_right xs ys h

  pub every_map : {Q : A → Type 0} {xs : List A} → ((x : A) → P x → Q x) → Every P xs → Every Q xs
  every_map k empty = empty
  every_map k (◌&◌ {a = x} p h) = k x p & every_map k h

  -- of the element at an index
  pub every_at : {xs : List A} (i : ℕ) {x₁ : A} → Every P xs → get_elem? xs i ≡ some x₁ → P x₁
  every_at i empty e = let z : ◌≡◌ {A = ℕ} 0 1 = cc in absurd (omega arith)
  every_at zero {x₁} (◌&◌ {a = x₀} p h) e = let q : x₀ ≡ x₁ = cc in subst P q p
  every_at (suc i) (p & h) e = every_at i h e

-- ---- words

pub below_get : {bound : ℕ} (xs : List ℕ) (i : ℕ) {d : ℕ} → AllBelow bound xs → d < bound → get_or xs i d < bound
unfolding AllBelow
below_get [] i h p = p
below_get (x ∷ xs) zero h p = h.0
below_get (x ∷ xs) (suc i) h p = below_get xs i h.1 p

pub below_set : {bound : ℕ} (xs : List ℕ) (i : ℕ) {x : ℕ} → AllBelow bound xs → x < bound → AllBelow bound (set xs i x)
unfolding AllBelow
below_set [] i h p = tt
below_set (y ∷ xs) zero h p = (p, h.1)
below_set (y ∷ xs) (suc i) h p = (h.0, below_set xs i h.1 p)

-- ---- `get_elem?`, `map`, `set`

module _ {A : Type 0} where
  pub get_inside : (xs : List A) (i : ℕ) (d : A) → i < length xs → get_elem? xs i ≡ some (get_or xs i d)
  get_inside [] i d h = absurd (not-suc-le-zero h)
  get_inside (x ∷ xs) zero d h = refl
  get_inside (x ∷ xs) (suc i) d h = get_inside xs i d (le_of_suc-le-suc h)

  -- an index at which there is an element
  pub inside_get : (xs : List A) (i : ℕ) {x₁ : A} → get_elem? xs i ≡ some x₁ → i < length xs
  inside_get [] i e = let z : ◌≡◌ {A = ℕ} 0 1 = cc in absurd (omega arith)
  inside_get (x ∷ xs) zero e = omega arith
  inside_get (x ∷ xs) (suc i) e = omega (arith, inside_get xs i e)

  -- another element than the one that is set
  pub get_other : (xs : List A) (i j : ℕ) (x : A) → (i ≡ j → ⊥) → get_elem? (set xs i x) j ≡ get_elem? xs j
  get_other [] i j x h = refl
  get_other (y ∷ xs) zero zero x h = absurd (h refl)
  get_other (y ∷ xs) zero (suc j) x h = refl
  get_other (y ∷ xs) (suc i) zero x h = refl
  get_other (y ∷ xs) (suc i) (suc j) x h = get_other xs i j x (λ e. h (ap suc e))

  pub map_set : {B : Type 0} (f : A → B) (xs : List A) (i : ℕ) (x : A) → map f (set xs i x) ≡ set (map f xs) i (f x)
  map_set f [] i x = refl
  map_set f (y ∷ xs) zero x = refl
  map_set {B} f (y ∷ xs) (suc i) x = ap {B = List B} (λ r. f y ∷ r) (map_set f xs i x)
