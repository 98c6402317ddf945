-- A rule's premises have no variables but those of the claim and of the rule's argument. Assumes nothing.
use mathlib.Core.List.{List}
use Prim.Native.Nat.{ℕ, ◌+◌, ◌≤◌, ◌<◌, ◌-◌, zero, suc}
use native.Mathlib.Omega.{arith}
use lib.Dec.{ltb, leb}
use lib.ListN.{length}
use borrow.Author.Tests.{ltb-true, leb-true}
use Rattle.model.specs.Result.{Fit, Ok, ◌>>=◌}
use Rattle.model.specs.Field.{byte_at, half_at, word_at}
use Rattle.model.specs.declared.ReadError.TheVariants.{Missing as missing, Fault as fault}
use Rattle.model.specs.Expression.{most_nodes, Form, four_byte_constant, two_byte_variable, two_expressions, count_and_expression, forms, Nodes, node_of, nodes_at, expression_at}
use Rattle.model.specs.Derivation.{proof_field, rule_at}
use Rattle.model.specs.declared.Refusal.{Refusal}
use Rattle.model.specs.declared.Refusal.TheVariants.{UnfitRule}
use Rattle.model.specs.Term.{Term, constant, variable, sum, difference, mask, shift, root_of}
use Rattle.model.specs.Linear.{variable_bound}
use Rattle.model.specs.Policy.{Policy, may_read, writable_region}
use Rattle.model.specs.Goals.{Goal, Claim as Claimed, atom, readable, writable}
use Rattle.model.specs.Rule.{Rule, Format, plain, with_index, with_term, with_region, rules, atom_of, sides_of, readable_of, writable_of, pair_of, sum_of, difference_of, mask_of, shift_of, equal_pairs, congruent, region_premises, premises}
use Rattle.model.specs.Rule.{from_assumption, equal_reflexive, at_most_reflexive, evaluation, equal_symmetric, equal_transitive, at_most_transitive, less_at_most, at_most_less, at_most_of_less, at_most_of_equal, congruence, linear, zero_at_most, sum_monotone, difference_monotone, successor_at_most, below_successor, sum_no_overflow, less_of_at_most, unequal_of_less, unequal_symmetric, in_readable_region, in_writable_region, contradiction, mask_at_most, shift_at_most, shift_bounded, linear_unequal}
use Rattle.model.specs.declared.Comparison.{Comparison}
use Rattle.model.specs.declared.Region.{Region}
use mathlib.Core.Bool.{Bool}
use Rattle.model.proofs.Gives.{Gives, gives, stops, gives_then, gives_next, gives_check, gives_element, gives_as}
use Rattle.model.proofs.Lists.{Every, empty, ◌&◌}
use Rattle.model_laws.specs.Bounded.{AtomBounded, ClaimBounded}

module _ (n : ℕ) where
  abbrev Bounded : Term → Type 0
  Bounded t = variable_bound t ≤ n

  abbrev PairBounded : Term × Term → Type 0
  PairBounded s = Bounded s.0 × Bounded s.1

  -- the argument's variables
  abbrev pub RuleBounded : Rule → Type 0
  RuleBounded (from_assumption index) = Unit {0}
  RuleBounded equal_reflexive = Unit {0}
  RuleBounded at_most_reflexive = Unit {0}
  RuleBounded evaluation = Unit {0}
  RuleBounded equal_symmetric = Unit {0}
  RuleBounded (equal_transitive m) = Bounded m
  RuleBounded (at_most_transitive m) = Bounded m
  RuleBounded (less_at_most m) = Bounded m
  RuleBounded (at_most_less m) = Bounded m
  RuleBounded at_most_of_less = Unit {0}
  RuleBounded at_most_of_equal = Unit {0}
  RuleBounded congruence = Unit {0}
  RuleBounded linear = Unit {0}
  RuleBounded zero_at_most = Unit {0}
  RuleBounded sum_monotone = Unit {0}
  RuleBounded difference_monotone = Unit {0}
  RuleBounded successor_at_most = Unit {0}
  RuleBounded below_successor = Unit {0}
  RuleBounded sum_no_overflow = Unit {0}
  RuleBounded less_of_at_most = Unit {0}
  RuleBounded unequal_of_less = Unit {0}
  RuleBounded unequal_symmetric = Unit {0}
  RuleBounded (in_readable_region j) = Unit {0}
  RuleBounded (in_writable_region j) = Unit {0}
  RuleBounded (contradiction m) = Bounded m
  RuleBounded mask_at_most = Unit {0}
  RuleBounded shift_at_most = Unit {0}
  RuleBounded shift_bounded = Unit {0}
  RuleBounded linear_unequal = Unit {0}

  -- an operation on two terms has no variables but theirs
  abbrev Bounding : (Term → Term → Term) → Type 0
  Bounding operation = (s t : Term) → Bounded s → Bounded t → Bounded (operation s t)

  sum_bound : Bounding sum
  unfolding variable_bound
  sum_bound s t h k = omega arith

  difference_bound : Bounding difference
  unfolding variable_bound
  difference_bound s t h k = omega arith

  mask_bound : Bounding mask
  unfolding variable_bound
  mask_bound s t h k = omega arith

  shift_bound : (count : ℕ) (s : Term) → Bounded s → Bounded (shift count s)
  unfolding variable_bound
  shift_bound count s h = h

  constant_bound : (c : ℕ) → Bounded (constant c)
  unfolding variable_bound
  constant_bound c = omega arith

  -- ---- the parts of a claim and of a term
  pub atom_bounded : (c : Claimed) → ClaimBounded n c → Gives (AtomBounded n) (atom_of c)
  unfolding atom_of
  atom_bounded (atom a) h = gives h
  atom_bounded (readable t) h = stops
  atom_bounded (writable t) h = stops

  pub sides_bounded : (kind : Comparison) (c : Claimed) → ClaimBounded n c → Gives PairBounded (sides_of kind c)
  unfolding sides_of
  sides_bounded kind c h = gives_then (atom_bounded c h) λ a k. gives_next λ _ _. gives k

  -- the operands of a term
  root_bounded : (t : Term) → Bounded t → Bounded (root_of t).first × Bounded (root_of t).second
  unfolding variable_bound
  root_bounded (constant c) h = (omega arith, omega arith)
  root_bounded (variable v) h = (omega arith, omega arith)
  root_bounded (sum s t) h = (omega arith, omega arith)
  root_bounded (difference s t) h = (omega arith, omega arith)
  root_bounded (mask s t) h = (omega arith, omega arith)
  root_bounded (shift count s) h = (h, omega arith)

  pair_bounded : (tag : ℕ) (t : Term) → Bounded t → Gives PairBounded (pair_of tag t)
  unfolding pair_of
  pair_bounded tag t h = gives_next λ _ _. gives (root_bounded t h)

  sum_bounded : (t : Term) → Bounded t → Gives PairBounded (sum_of t)
  unfolding sum_of
  sum_bounded = pair_bounded 2

  difference_bounded : (t : Term) → Bounded t → Gives PairBounded (difference_of t)
  unfolding difference_of
  difference_bounded = pair_bounded 3

  mask_bounded : (t : Term) → Bounded t → Gives PairBounded (mask_of t)
  unfolding mask_of
  mask_bounded = pair_bounded 4

  shift_operand_bounded : (t : Term) → Bounded t → Gives (λ (r : ℕ × Term). Bounded r.1) (shift_of t)
  unfolding shift_of
  shift_operand_bounded t h = gives_next λ _ _. gives (root_bounded t h).0

  -- the premises of two terms of one operation, by the operands of the first
  equal_pairs_bounded : (a b : Term) {operands : Fit (Term × Term)} → PairBounded (a, b) → Gives PairBounded operands → Gives (Every (AtomBounded n)) (equal_pairs a b operands)
  unfolding equal_pairs
  equal_pairs_bounded a b h each = gives_then each λ r k. gives ((h.0, k.0) & (h.1, k.1) & empty)

  congruent_bounded : (s t : Term) → Bounded s → Bounded t → Gives (Every (AtomBounded n)) (congruent s t)
  unfolding congruent
  congruent_bounded (constant c) t h k = stops
  congruent_bounded (variable v) t h k = stops
  congruent_bounded (sum a b) t h k = equal_pairs_bounded a b (root_bounded (sum a b) h) (sum_bounded t k)
  congruent_bounded (difference a b) t h k = equal_pairs_bounded a b (root_bounded (difference a b) h) (difference_bounded t k)
  congruent_bounded (mask a b) t h k = equal_pairs_bounded a b (root_bounded (mask a b) h) (mask_bounded t k)
  congruent_bounded (shift count a) t h k = gives_then (shift_operand_bounded t k) λ r m. gives_next λ _ _. gives (((root_bounded (shift count a) h).0, m) & empty)

  -- ---- the premises
  region_bounded : (policy : Policy) (right : Region → Bool) (j : ℕ) (t : Term) → Bounded t → Gives (Every (AtomBounded n)) (region_premises policy right j t)
  unfolding region_premises
  region_bounded policy right j t h = gives_next λ r _. gives_next λ _ _. gives ((constant_bound r.base, h) & (h, constant_bound (r.base + r.size)) & empty)

  access_bounded : (c : Claimed) → ClaimBounded n c → Gives Bounded (readable_of c) × Gives Bounded (writable_of c)
  unfolding readable_of writable_of
  access_bounded (atom a) h = (stops, stops)
  access_bounded (readable t) h = (gives h, stops)
  access_bounded (writable t) h = (stops, gives h)

  module _ (policy : Policy) (g : Goal) where
    pub premises_bounded : (rule : Rule) (c : Claimed) → RuleBounded rule → ClaimBounded n c → Gives (Every (AtomBounded n)) (premises policy g rule c)
    unfolding premises
    premises_bounded (from_assumption index) c r h = gives_next λ _ _. gives_next λ _ _. gives_next λ _ _. gives empty
    premises_bounded equal_reflexive c r h = gives_next λ _ _. gives_next λ _ _. gives empty
    premises_bounded at_most_reflexive c r h = gives_next λ _ _. gives_next λ _ _. gives empty
    premises_bounded evaluation c r h = gives_next λ _ _. gives_next λ _ _. gives empty
    premises_bounded equal_symmetric c r h = gives_then (sides_bounded _ c h) λ s k. gives ((k.1, k.0) & empty)
    premises_bounded (equal_transitive m) c r h = gives_then (sides_bounded _ c h) λ s k. gives ((k.0, r) & (r, k.1) & empty)
    premises_bounded (at_most_transitive m) c r h = gives_then (sides_bounded _ c h) λ s k. gives ((k.0, r) & (r, k.1) & empty)
    premises_bounded (less_at_most m) c r h = gives_then (sides_bounded _ c h) λ s k. gives ((k.0, r) & (r, k.1) & empty)
    premises_bounded (at_most_less m) c r h = gives_then (sides_bounded _ c h) λ s k. gives ((k.0, r) & (r, k.1) & empty)
    premises_bounded at_most_of_less c r h = gives_then (sides_bounded _ c h) λ s k. gives (k & empty)
    premises_bounded at_most_of_equal c r h = gives_then (sides_bounded _ c h) λ s k. gives (k & empty)
    premises_bounded congruence c r h = gives_then (sides_bounded _ c h) λ s k. congruent_bounded s.0 s.1 k.0 k.1
    premises_bounded linear c r h = gives_next λ _ _. gives_next λ _ _. gives_next λ _ _. gives empty
    premises_bounded zero_at_most c r h = gives_next λ _ _. gives_next λ _ _. gives empty
    premises_bounded sum_monotone c r h =
        gives_then (sides_bounded _ c h) λ s k.
        gives_then (sum_bounded s.0 k.0) λ a p.
        gives_then (sum_bounded s.1 k.1) λ b q. gives ((p.0, q.0) & (p.1, q.1) & (q.0, sum_bound b.0 b.1 q.0 q.1) & empty)
    premises_bounded difference_monotone c r h =
        gives_then (sides_bounded _ c h) λ s k.
        gives_then (difference_bounded s.0 k.0) λ a p.
        gives_then (difference_bounded s.1 k.1) λ b q. gives ((p.0, q.0) & (q.1, p.1) & (p.1, p.0) & empty)
    premises_bounded successor_at_most c r h =
        gives_then (sides_bounded _ c h) λ s k. gives_then (sum_bounded s.0 k.0) λ a p. gives_next λ _ _. gives ((p.0, k.1) & empty)
    premises_bounded below_successor c r h = gives_then (sides_bounded _ c h) λ s k. gives ((k.0, sum_bound s.1 (constant 1) k.1 (constant_bound 1)) & empty)
    premises_bounded sum_no_overflow c r h =
        gives_then (sides_bounded _ c h) λ s k.
        gives_then (sum_bounded s.1 k.1) λ a p.
        gives_next λ _ _. gives ((k.0, difference_bound (constant 4294967295) a.1 (constant_bound 4294967295) p.1) & empty)
    premises_bounded less_of_at_most c r h = gives_then (sides_bounded _ c h) λ s k. gives (k & k & empty)
    premises_bounded unequal_of_less c r h = gives_then (sides_bounded _ c h) λ s k. gives (k & empty)
    premises_bounded unequal_symmetric c r h = gives_then (sides_bounded _ c h) λ s k. gives ((k.1, k.0) & empty)
    premises_bounded (in_readable_region j) c r h = gives_then (access_bounded c h).0 λ t k. region_bounded policy may_read j t k
    premises_bounded (in_writable_region j) c r h = gives_then (access_bounded c h).1 λ t k. region_bounded policy (writable_region policy.regions) j t k
    premises_bounded (contradiction m) c r h = gives ((r, r) & empty)
    premises_bounded mask_at_most c r h = gives_next λ _ _. gives_next λ _ _. gives_next λ _ _. gives empty
    premises_bounded shift_at_most c r h = gives_next λ _ _. gives_next λ _ _. gives_next λ _ _. gives empty
    premises_bounded shift_bounded c r h = gives_next λ _ _. gives_next λ _ _. gives_next λ _ _. gives empty
    premises_bounded linear_unequal c r h = gives_next λ _ _. gives_next λ _ _. gives_next λ _ _. gives empty

-- ---- fields and expressions
module _ (bytes : List ℕ) (end : ℕ) where
  byte_inside : (p : ℕ) → Gives (λ _. p + 1 ≤ end) (byte_at bytes end p)
  unfolding byte_at
  byte_inside p = gives_then (gives_check (leb (p + 1) end) missing) λ _ h. gives (leb-true (p + 1) end h)

  half_inside : (p : ℕ) → Gives (λ _. p + 2 ≤ end) (half_at bytes end p)
  unfolding half_at
  half_inside p = gives_then (gives_check (leb (p + 2) end) missing) λ _ h. gives (leb-true (p + 2) end h)

  word_inside : (p : ℕ) → Gives (λ _. p + 4 ≤ end) (word_at bytes end p)
  unfolding word_at
  word_inside p = gives_then (gives_check (leb (p + 4) end) missing) λ _ h. gives (leb-true (p + 4) end h)

  module _ (limit : ℕ) where
    -- the variables are below the limit, and the next position is past p and inside
    abbrev Read : (p : ℕ) → Term → ℕ → Type 0
    Read p t q = (variable_bound t ≤ limit) × (p < q) × (q ≤ end)

    abbrev FormBounded : Form → Type 0
    FormBounded four_byte_constant = Unit {0}
    FormBounded two_byte_variable = Unit {0}
    FormBounded (two_expressions operation) = Bounding limit operation
    FormBounded (count_and_expression operation) = (count : ℕ) (s : Term) → variable_bound s ≤ limit → variable_bound (operation count s) ≤ limit

    forms_bounded : Every FormBounded forms
    forms_bounded = tt & tt & sum_bound limit & difference_bound limit & mask_bound limit & shift_bound limit & empty

    abbrev NodesRead : (p : ℕ) → Nodes → Type 0
    NodesRead p = Gives (λ (r : Term × ℕ × ℕ). Read p r.0 r.1)

    node_read : (operand : (left p : ℕ) → Nodes) → ((left p : ℕ) → NodesRead p (operand left p)) → (form : Form) → FormBounded form → (left p : ℕ) → NodesRead p (node_of bytes end limit operand form left p)
    unfolding node_of variable_bound
    node_read operand each four_byte_constant w left p = gives_then (word_inside (p + 1)) λ c h. gives {a = (constant c, p + 5, left - 1)} (omega arith, omega arith, omega arith)
    node_read operand each two_byte_variable w left p =
        gives_then (half_inside (p + 1)) λ v h.
        gives_then (gives_check (ltb v limit) (fault (p + 1))) λ _ l. gives {a = (variable v, p + 3, left - 1)} (omega (arith, ltb-true v limit l), omega arith, omega arith)
    node_read operand each (two_expressions operation) w left p =
        gives_then (each (left - 1) (p + 1)) λ s u.
        gives_then (each s.2 s.1) λ t v. gives {a = (operation s.0 t.0, t.1, t.2)} (w s.0 t.0 u.0 v.0, omega (arith, u.1, v.1), v.2)
    node_read operand each (count_and_expression operation) w left p =
        gives_next λ count _.
        gives_next λ _ _.
        gives_then (each (left - 1) (p + 2)) λ s u. gives {a = (operation count s.0, s.1, s.2)} (w count s.0 u.0, omega (arith, u.1), u.2)

    nodes_read : (depth left p : ℕ) → NodesRead p (nodes_at bytes end limit depth left p)
    unfolding nodes_at
    nodes_read zero left p = gives_next λ _ _. stops
    nodes_read (suc depth) left p =
        gives_next λ tag _.
        gives_next λ _ _.
        gives_then (gives_element tag (fault p) forms_bounded) λ form w. node_read _ (nodes_read depth) form w left p

    pub expression_read : (p : ℕ) → Gives (λ (r : Term × ℕ). Read p r.0 r.1) (expression_at bytes end limit p)
    unfolding expression_at
    expression_read p = gives_then (nodes_read most_nodes most_nodes p) λ r w. gives {a = (r.0, r.1)} w

-- ---- rules
abbrev FormatBounded : (n : ℕ) → Format → Type 0
FormatBounded n (plain rule) = RuleBounded n rule
FormatBounded n (with_index rule) = (index : ℕ) → RuleBounded n (rule index)
FormatBounded n (with_term rule) = (m : Term) → variable_bound m ≤ n → RuleBounded n (rule m)
FormatBounded n (with_region rule) = (j : ℕ) → RuleBounded n (rule j)

rules_bounded : (n : ℕ) → Every (FormatBounded n) rules
rules_bounded n =
    let index : (i : ℕ) → Unit {0} = λ i. tt in
    let term : (m : Term) → variable_bound m ≤ n → variable_bound m ≤ n = λ m h. h in
    index & tt & tt & tt & tt & term & term & term & term & tt & tt & tt & tt & tt & tt & tt & tt & tt & tt & tt & tt & tt & index & index & term & tt & tt & tt & tt & empty

pub rule_read : (bytes : List ℕ) (variables p : ℕ) → Gives (λ (r : Rule × ℕ). RuleBounded variables r.0 × (p < r.1) × (r.1 ≤ length bytes)) (rule_at bytes variables p)
unfolding rule_at
rule_read bytes variables p =
    gives_then (gives_as _ (byte_inside bytes (length bytes) p)) λ number h.
    gives_then (gives_element number (UnfitRule p) (rules_bounded variables)) λ format w. argued format h w
  where
    argued : (format : Format) → p + 1 ≤ length bytes → FormatBounded variables format → Gives {E = Refusal} (λ (r : Rule × ℕ). RuleBounded variables r.0 × (p < r.1) × (r.1 ≤ length bytes)) (
        elim format [
          | plain rule ↦ Ok (rule, p + 1)
          | with_index rule ↦ proof_field bytes (half_at bytes (length bytes) (p + 1)) >>= λ index. Ok (rule index, p + 3)
          | with_term rule ↦ proof_field bytes (expression_at bytes (length bytes) variables (p + 1)) >>= λ (m, q). Ok (rule m, q)
          | with_region rule ↦ proof_field bytes (byte_at bytes (length bytes) (p + 1)) >>= λ j. Ok (rule j, p + 2)
        ]
        )
    argued (plain rule) h w = gives {a = (rule, p + 1)} (w, omega arith, omega arith)
    argued (with_index rule) h w = gives_then (gives_as _ (half_inside bytes (length bytes) (p + 1))) λ index k. gives {a = (rule index, p + 3)} (w index, omega arith, omega arith)
    argued (with_term rule) h w = gives_then (gives_as _ (expression_read bytes (length bytes) variables (p + 1))) λ r k. gives {a = (rule r.0, r.1)} (w r.0 k.0, omega (arith, k.1), k.2)
    argued (with_region rule) h w = gives_then (gives_as _ (byte_inside bytes (length bytes) (p + 1))) λ j k. gives {a = (rule j, p + 2)} (w j, omega arith, omega arith)
