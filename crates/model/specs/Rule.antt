-- The rules of derivation: the premises from which each gives a claim. Assumes nothing.
use Rattle.std.specs.Prelude.{ℕ, ◌+◌, Bool, not, ◌&&◌, List, [], ◌∷◌, eqb}
use Rattle.std.proofs.Math.ListN.{get_elem?}
use Rattle.model.specs.Result.{Fit, misfit, Err, Ok, ◌>>=◌, check, found}
use Rattle.model.specs.Word.{shift_w}
use Rattle.model.specs.Term.{Term, constant, variable, sum, difference, mask, shift, closed, root_of, eq_term}
use Rattle.model.specs.Atom.{Atom, equal, unequal, less, at_most, holds, tag_of, eq_atom}
use Rattle.model.specs.Policy.{Policy, may_read, writable_region}
use Rattle.model.specs.declared.Region.{Region}
use Rattle.model.specs.Goals.{Claim, atom, readable, writable, Goal}
use Rattle.model.specs.Linear.{form_difference}
use Rattle.model.specs.declared.Comparison.{Comparison}
use Rattle.model.specs.declared.Comparison.TheVariants.{Equal, Unequal, Less, AtMost}

-- a rule with its arguments, in the order of the rule bytes
pub data Rule : Type 0 where
  from_assumption : (index : ℕ) → Rule
  equal_reflexive : Rule
  at_most_reflexive : Rule
  evaluation : Rule
  equal_symmetric : Rule
  equal_transitive : (m : Term) → Rule
  at_most_transitive : (m : Term) → Rule
  less_at_most : (m : Term) → Rule
  at_most_less : (m : Term) → Rule
  at_most_of_less : Rule
  at_most_of_equal : Rule
  congruence : Rule
  linear : Rule
  zero_at_most : Rule
  sum_monotone : Rule
  difference_monotone : Rule
  successor_at_most : Rule
  below_successor : Rule
  sum_no_overflow : Rule
  less_of_at_most : Rule
  unequal_of_less : Rule
  unequal_symmetric : Rule
  in_readable_region : (j : ℕ) → Rule
  in_writable_region : (j : ℕ) → Rule
  contradiction : (m : Term) → Rule
  mask_at_most : Rule
  shift_at_most : Rule
  shift_bounded : Rule
  linear_unequal : Rule

-- what stands after a rule byte
pub data Format : Type 0 where
  plain : Rule → Format
  with_index : (ℕ → Rule) → Format
  with_term : (Term → Rule) → Format
  with_region : (ℕ → Rule) → Format

abbrev pub rules : List Format
rules =
    with_index from_assumption
    ∷ plain equal_reflexive
    ∷ plain at_most_reflexive
    ∷ plain evaluation
    ∷ plain equal_symmetric
    ∷ with_term equal_transitive
    ∷ with_term at_most_transitive
    ∷ with_term less_at_most
    ∷ with_term at_most_less
    ∷ plain at_most_of_less
    ∷ plain at_most_of_equal
    ∷ plain congruence
    ∷ plain linear
    ∷ plain zero_at_most
    ∷ plain sum_monotone
    ∷ plain difference_monotone
    ∷ plain successor_at_most
    ∷ plain below_successor
    ∷ plain sum_no_overflow
    ∷ plain less_of_at_most
    ∷ plain unequal_of_less
    ∷ plain unequal_symmetric
    ∷ with_region in_readable_region
    ∷ with_region in_writable_region
    ∷ with_term contradiction
    ∷ plain mask_at_most
    ∷ plain shift_at_most
    ∷ plain shift_bounded
    ∷ plain linear_unequal
    ∷ []

-- ---- the parts of a claim and of a term

unfoldable pub atom_of : Claim → Fit Atom
atom_of (atom a) = Ok a
atom_of (readable t) = Err misfit
atom_of (writable t) = Err misfit

-- the two sides of a claim of a kind: a = b, a ≠ b, a < b or a ≤ b
unfoldable pub sides_of : Comparison → Claim → Fit (Term × Term)
sides_of kind c = do
  a ← atom_of c
  _ ← check (eqb (tag_of a.kind) (tag_of kind)) misfit
  Ok (a.left, a.right)

unfoldable pub readable_of : Claim → Fit Term
readable_of (atom a) = Err misfit
readable_of (readable t) = Ok t
readable_of (writable t) = Err misfit

unfoldable pub writable_of : Claim → Fit Term
writable_of (atom a) = Err misfit
writable_of (readable t) = Err misfit
writable_of (writable t) = Ok t

-- the two operands of a term of the form with a tag: of a sum, of a difference, of a mask
unfoldable pub pair_of : (tag : ℕ) → Term → Fit (Term × Term)
pair_of tag t = do
  _ ← check (eqb (root_of t).tag tag) misfit
  Ok ((root_of t).first, (root_of t).second)

unfoldable pub sum_of : Term → Fit (Term × Term)
sum_of t = pair_of 2 t

unfoldable pub difference_of : Term → Fit (Term × Term)
difference_of t = pair_of 3 t

unfoldable pub mask_of : Term → Fit (Term × Term)
mask_of t = pair_of 4 t

-- the count and the operand of a shift
unfoldable pub shift_of : Term → Fit (ℕ × Term)
shift_of t = do
  _ ← check (eqb (root_of t).tag 5) misfit
  Ok ((root_of t).number, (root_of t).first)

-- a = c, b = d
unfoldable pub equal_pairs : (a b : Term) → Fit (Term × Term) → Fit (List Atom)
equal_pairs a b operands = do
  (c, d) ← operands
  Ok (equal a c ∷ equal b d ∷ [])

-- what makes two terms of one operation equal: "a+b = c+d, or a-b = c-d, from a = c, b = d"; "rule 11 covers masks (two premises) and shifts
-- by one count (one premise)"
unfoldable pub congruent : Term → Term → Fit (List Atom)
congruent (constant c) u = Err misfit
congruent (variable v) u = Err misfit
congruent (sum a b) u = equal_pairs a b (sum_of u)
congruent (difference a b) u = equal_pairs a b (difference_of u)
congruent (mask a b) u = equal_pairs a b (mask_of u)
congruent (shift count a) u = do
  (other, c) ← shift_of u
  _ ← check (eqb count other) misfit
  Ok (equal a c ∷ [])

-- ---- the rules

module _ (policy : Policy) where
  -- "base ≤ t, t < base plus length (one constant), region j having that right", which is a test of the region
  unfoldable pub region_premises : (test : Region → Bool) → (j : ℕ) → Term → Fit (List Atom)
  region_premises test j t = do
    r ← found (get_elem? policy.regions j) misfit
    _ ← check (test r) misfit
    Ok (at_most (constant r.base) t ∷ less t (constant (r.base + r.size)) ∷ [])

module _ (policy : Policy) (g : Goal) where
  -- The premises from which the rule gives the claim, in order; no value where it does not fit.
  unfoldable pub premises : Rule → Claim → Fit (List Atom)
  premises (from_assumption index) c = do
    a ← atom_of c
    b ← found (get_elem? g.assumptions index) misfit
    _ ← check (eq_atom a b) misfit
    Ok []
  premises equal_reflexive c = do
    (a, b) ← sides_of Equal c
    _ ← check (eq_term a b) misfit
    Ok []
  premises at_most_reflexive c = do
    (a, b) ← sides_of AtMost c
    _ ← check (eq_term a b) misfit
    Ok []
  premises evaluation c = do
    a ← atom_of c
    _ ← check (closed a.left && closed a.right && holds (λ v. 0) a) misfit
    Ok []
  premises equal_symmetric c = do
    (a, b) ← sides_of Equal c
    Ok (equal b a ∷ [])
  premises (equal_transitive m) c = do
    (a, b) ← sides_of Equal c
    Ok (equal a m ∷ equal m b ∷ [])
  premises (at_most_transitive m) c = do
    (a, b) ← sides_of AtMost c
    Ok (at_most a m ∷ at_most m b ∷ [])
  premises (less_at_most m) c = do
    (a, b) ← sides_of Less c
    Ok (less a m ∷ at_most m b ∷ [])
  premises (at_most_less m) c = do
    (a, b) ← sides_of Less c
    Ok (at_most a m ∷ less m b ∷ [])
  premises at_most_of_less c = do
    (a, b) ← sides_of AtMost c
    Ok (less a b ∷ [])
  premises at_most_of_equal c = do
    (a, b) ← sides_of AtMost c
    Ok (equal a b ∷ [])
  premises congruence c = do
    (l, r) ← sides_of Equal c
    congruent l r
  -- "Rule 12 fits at difference zero."
  premises linear c = do
    (a, b) ← sides_of Equal c
    d ← found (form_difference a b) misfit
    _ ← check (eqb d 0) misfit
    Ok []
  premises zero_at_most c = do
    (a, b) ← sides_of AtMost c
    _ ← check (eq_term a (constant 0)) misfit
    Ok []
  premises sum_monotone c = do
    (l, r) ← sides_of AtMost c
    (a, b) ← sum_of l
    (p, q) ← sum_of r
    Ok (at_most a p ∷ at_most b q ∷ at_most p (sum p q) ∷ [])
  premises difference_monotone c = do
    (l, r) ← sides_of AtMost c
    (a, b) ← difference_of l
    (p, q) ← difference_of r
    Ok (at_most a p ∷ at_most q b ∷ at_most b a ∷ [])
  premises successor_at_most c = do
    (l, r) ← sides_of AtMost c
    (a, one) ← sum_of l
    _ ← check (eq_term one (constant 1)) misfit
    Ok (less a r ∷ [])
  premises below_successor c = do
    (a, b) ← sides_of AtMost c
    Ok (less a (sum b (constant 1)) ∷ [])
  premises sum_no_overflow c = do
    (a, r) ← sides_of AtMost c
    (p, b) ← sum_of r
    _ ← check (eq_term a p) misfit
    Ok (at_most a (difference (constant 4294967295) b) ∷ [])
  premises less_of_at_most c = do
    (a, b) ← sides_of Less c
    Ok (at_most a b ∷ unequal a b ∷ [])
  premises unequal_of_less c = do
    (a, b) ← sides_of Unequal c
    Ok (less a b ∷ [])
  premises unequal_symmetric c = do
    (a, b) ← sides_of Unequal c
    Ok (unequal b a ∷ [])
  premises (in_readable_region j) c = do
    t ← readable_of c
    region_premises policy may_read j t
  premises (in_writable_region j) c = do
    t ← writable_of c
    region_premises policy (writable_region policy.regions) j t
  premises (contradiction m) c = Ok (less m m ∷ [])
  -- "25, a masked with b ≤ b; 26, a shifted ≤ a; 27, a shifted by s ≤ c, one constant whose value is 4294967295 shifted right by s"
  premises mask_at_most c = do
    (l, r) ← sides_of AtMost c
    (a, b) ← mask_of l
    _ ← check (eq_term b r) misfit
    Ok []
  premises shift_at_most c = do
    (l, r) ← sides_of AtMost c
    (count, a) ← shift_of l
    _ ← check (eq_term a r) misfit
    Ok []
  premises shift_bounded c = do
    (l, r) ← sides_of AtMost c
    (count, a) ← shift_of l
    _ ← check (eq_term r (constant (shift_w count 4294967295))) misfit
    Ok []
  -- "New rule 28: a ≠ b if a difference exists and is not zero."
  premises linear_unequal c = do
    (a, b) ← sides_of Unequal c
    d ← found (form_difference a b) misfit
    _ ← check (not (eqb d 0)) misfit
    Ok []
