-- Laws of reading a rule: one for each way out. Assumes nothing.
use mathlib.Core.Path.{◌≡◌, refl, sym, ap, subst}
use mathlib.Core.Logic.{⊎_elim}
use mathlib.Core.Option.{Option, none, some}
use mathlib.Core.List.{List, ◌∷◌, []}
use Prim.Native.Nat.{ℕ, zero, suc, ◌+◌, ◌-◌, ◌<◌, ◌≤◌}
use native.Mathlib.Nat.{eq-or-lt_of_le, le_of_suc-le-suc}
use native.Mathlib.Omega.{arith}
use native.Mathlib.Decide.{dec_lt}
use lib.Dec.{lit<}
use lib.ListN.{length, get_or, get_elem?}
use Rattle.model.specs.Result.{Result, Err, Ok}
use Rattle.model.specs.Field.{byte_at}
use Rattle.model.specs.Expression.{register_count}
use Rattle.model.specs.Rule.{Rule, Format, plain, with_index, with_term, with_region, rules}
use Rattle.model.specs.Derivation.{proof_field, rule_at}
use Rattle.model.specs.declared.Refusal.{Refusal}
use Rattle.model.proofs.Lists.{Every, empty, ◌&◌}
use Rattle.rule_reader.specs.Opening.{rule_of_format, rule_of_row, register_nodes}
use mathlib.Core.Bool.{Bool, true, false}
use Rattle.claims.proofs.StepLaws.{past_last, steps}

-- ---- numbers in turn
pub down_from : ℕ → List ℕ
down_from zero = []
down_from (suc n) = n ∷ down_from n

-- what holds of each number that is listed holds of each below
each_below : {P : ℕ → Type 0} (n : ℕ) → Every P (down_from n) → (k : ℕ) → k < n → P k
unfolding down_from
each_below zero h k l = absurd (omega arith)
each_below {P} (suc n) (p & h) k l = ⊎_elim (λ e. subst P (sym e) p) (λ m. each_below n h k m) (eq-or-lt_of_le (le_of_suc-le-suc l))

-- ---- rules without an argument, by their rows
abbrev pub bare : Option Format → Bool
bare none = true
bare (some (plain rule)) = true
bare (some (with_index rule)) = false
bare (some (with_term rule)) = false
bare (some (with_region rule)) = false

-- so many rows of the table of rules, from a number on, are so
abbrev Bare : (from count : ℕ) → Type 0
Bare from count = Every (λ k. true ≡ bare (get_elem? rules (from + k))) (down_from count)

bare_low : Bare 1 4
unfolding down_from
bare_low = search (◌&◌, empty) depth 60

bare_high : Bare 9 13
unfolding down_from
bare_high = search (◌&◌, empty) depth 60

bare_last : Bare 25 4
unfolding down_from
bare_last = search (◌&◌, empty) depth 60

module _ (n : ℕ) where
  rows : (from count : ℕ) → Bare from count → from ≤ n → n < from + count → true ≡ bare (get_elem? rules n)
  rows from count r l h =
      let e : from + (n - from) ≡ n = omega arith in
      subst (λ i. true ≡ bare (get_elem? rules i)) e (each_below count r (n - from) (omega arith))

  pub row_unknown : 29 ≤ n → none ≡ get_elem? rules n
  row_unknown h = sym (past_last rules n (omega arith))

  pub row_bare : 0 < n → (4 < n → 8 < n) → (21 < n → 24 < n) → true ≡ bare (get_elem? rules n)
  row_bare z l h = go (dec_lt n 5) (dec_lt n 22) (dec_lt n 29)
    where
      go : Dec (n < 5) → Dec (n < 22) → Dec (n < 29) → true ≡ bare (get_elem? rules n)
      go (yes a) b c = rows 1 4 bare_low z (omega arith)
      go (no a) (yes b) c = rows 9 13 bare_high (omega arith) (omega arith)
      go (no a) (no b) (yes c) = rows 25 4 bare_last (omega arith) (omega arith)
      go (no a) (no b) (no c) = ap bare (row_unknown (omega arith))

-- ---- ways out
-- a region's number that is missing
pub region_refused : (bytes : List ℕ) (variables at : ℕ) {number : ℕ} {e : Refusal} → Ok number ≡ proof_field bytes (byte_at bytes (length bytes) at) → (21 < number) × (number < 24)
    → Err e ≡ proof_field bytes (byte_at bytes (length bytes) (at + 1)) → Err e ≡ rule_at bytes variables at
unfolding rule_at
region_refused bytes variables at b l h = grind (arith, steps)

-- the rule of a row that is there
pub rule_opened : (us : List ℕ) {n next : ℕ} {rule : Rule} (o : Option Format) {x : Result (Rule × ℕ) Refusal} → some rule ≡ rule_of_row us n o → ((format : Format) → o ≡ some format → Ok (rule_of_format us n format, next) ≡ x) → Ok (rule, next) ≡ x
rule_opened us none h k = cc
rule_opened us {n} {next} {rule} (some format) h k = let e : rule ≡ rule_of_format us n format = cc in rw e (k format refl)

-- the registers' nodes are those of the table's first variables
nodes_below : Every (λ k. get_or register_nodes k 0 < register_count) (down_from register_count)
unfolding down_from
nodes_below = search (◌&◌, empty, lit<, tt) depth 60

pub register_below : (v : ℕ) → v < register_count → get_or register_nodes v 0 < register_count
register_below v h = each_below register_count nodes_below v h
