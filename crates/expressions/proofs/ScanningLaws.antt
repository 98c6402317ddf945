-- The laws of `nodes_at`, one for each way out of `variable`, `count` and `nodes`. Assumes nothing.
use Prim.Native.Nat.{ℕ, zero, suc, ◌+◌, ◌-◌, ◌≤◌, ◌<◌}
use mathlib.Core.Path.{◌≡◌, refl, ap, ◌∙◌}
use mathlib.Core.List.{List, [], ◌∷◌}
use mathlib.Core.Option.{none, some}
use native.Mathlib.Omega.{arith}
use lib.ListN.{length, get_or, get_elem?}
use borrow.Author.Tests.{le-leb, lt-leb, lt-ltb, le-ltb}
use Rattle.model.specs.Result.{Result, Err, Ok, ◌>>=◌, check, found}
use Rattle.model.specs.Word.{le16}
use Rattle.model.specs.Term.{Term, sum, difference, mask, shift}
use Rattle.model.specs.Field.{byte_at, half_at, word_at}
use Rattle.model.specs.declared.ReadError.{ReadError}
use Rattle.model.specs.declared.ReadError.TheVariants.{Missing, Fault}
use Rattle.model.specs.Expression.{Form, four_byte_constant, two_byte_variable, two_expressions, count_and_expression, forms, most_count, Nodes, node_of, nodes_at}
use Rattle.expressions.specs.declared.scanning.Scanned.{Scanned}
use Rattle.expressions.specs.Scanning.{scanned_of, then_operand}

-- there is nothing past a list's end
pub past : {A : Type 0} (l : List A) (i : ℕ) → length l ≤ i → get_elem? l i ≡ none
past [] i h = refl
past (a ∷ l) zero h = absurd (omega arith)
past (a ∷ l) (suc i) h = past l i (omega arith)

-- a byte that is there, or not
module _ (bytes : List ℕ) (end at : ℕ) where
  pub byte_missing : end ≤ at → byte_at bytes end at ≡ Err Missing
  unfolding byte_at check ◌>>=◌
  byte_missing h = rw (lt-leb (at + 1) end (omega arith), byte_at)

  pub byte_there : at < end → byte_at bytes end at ≡ Ok (get_or bytes at 0)
  unfolding byte_at check ◌>>=◌
  byte_there h = rw (le-leb (at + 1) end (omega arith), byte_at)

-- ---- two operands, the second read where the first ends

abbrev Reader : Type 0
Reader = (left p : ℕ) → Nodes

abbrev pair : (Term → Term → Term) → Nodes → Reader → Nodes
pair operation x second = do
  (s, q, left) ← x
  (t, r, left') ← second left q
  Ok (operation s t, r, left')

-- tags 2, 3 and 4 have two operands
pair_form : (tag : ℕ) → (tag ≡ 0 → ⊥) → (tag ≡ 1 → ⊥) → tag < 5 → (operation : Term → Term → Term) × (get_elem? forms tag ≡ some (two_expressions operation))
pair_form zero z o h = absurd (z refl)
pair_form (suc zero) z o h = absurd (o refl)
pair_form (suc (suc zero)) z o h = (sum, refl)
pair_form (suc (suc (suc zero))) z o h = (difference, refl)
pair_form (suc (suc (suc (suc zero)))) z o h = (mask, refl)
pair_form (suc (suc (suc (suc (suc k))))) z o h = absurd (omega arith)

-- the term does not show
same_scan : (f : Term → Term) (x : Nodes) → scanned_of x ≡ scanned_of (x >>= λ y. Ok (f y.0, y.1, y.2))
unfolding scanned_of ◌>>=◌
same_scan f (Err e) = refl
same_scan f (Ok y) = refl

-- a pair goes on with its second operand where its first ends
pair_goes : (operation : Term → Term → Term) (x : Nodes) (second : Reader) → then_operand (scanned_of x) second ≡ scanned_of (pair operation x second)
unfolding scanned_of ◌>>=◌
pair_goes operation (Err e) second = refl
pair_goes operation (Ok (s, q, left)) second = same_scan (operation s) (second left q)

-- ---- the ways out of `count`

module _ (bytes : List ℕ) (end left at : ℕ) where
  -- what `count` owes of its answer
  abbrev Counts : Result Scanned ReadError → Type 0
  Counts r = (limit : ℕ) (operand : Reader) → then_operand r operand ≡ scanned_of (node_of bytes end limit operand (count_and_expression shift) left at)

  pub short_count : end ≤ at + 1 → Counts (Err Missing)
  unfolding node_of ◌>>=◌ scanned_of
  short_count h limit operand = rw (byte_missing bytes end (at + 1) h, node_of)

  pub large_count : at + 1 < end → most_count < get_or bytes (at + 1) 0 → Counts (Err (Fault (at + 1)))
  unfolding node_of check ◌>>=◌ scanned_of
  large_count h v limit operand = rw (byte_there bytes end (at + 1) h, lt-leb (get_or bytes (at + 1) 0) most_count v, node_of)

  pub whole_count : at + 1 < end → get_or bytes (at + 1) 0 ≤ most_count → Counts (Ok (record { next = at + 2; left = left - 1 }))
  unfolding node_of check ◌>>=◌
  whole_count h v limit operand = rw (byte_there bytes end (at + 1) h, le-leb (get_or bytes (at + 1) 0) most_count v, node_of) (same_scan (shift (get_or bytes (at + 1) 0)) (operand (left - 1) (at + 2)))

module _ (bytes : List ℕ) (end limit left at : ℕ) where
  -- ---- the ways out of `variable`

  -- a node that has no operands, of this form, is scanned so
  abbrev Forms : Form → Result Scanned ReadError → Type 0
  Forms form r = (operand : Reader) → r ≡ scanned_of (node_of bytes end limit operand form left at)

  pub short_variable : at < end → end - at < 3 → Forms two_byte_variable (Err Missing)
  unfolding node_of half_at check ◌>>=◌ scanned_of
  short_variable h s operand = rw (lt-leb (at + 1 + 2) end (omega arith), node_of, half_at)

  pub large_variable : 3 ≤ end - at → limit ≤ le16 bytes (at + 1) → Forms two_byte_variable (Err (Fault (at + 1)))
  unfolding node_of half_at check ◌>>=◌ scanned_of
  large_variable s v operand = rw (le-leb (at + 1 + 2) end (omega arith), le-ltb (le16 bytes (at + 1)) limit v, node_of, half_at)

  pub whole_variable : 3 ≤ end - at → le16 bytes (at + 1) < limit → Forms two_byte_variable (Ok (record { next = at + 3; left = left - 1 }))
  unfolding node_of half_at check ◌>>=◌ scanned_of
  whole_variable s v operand = rw (le-leb (at + 1 + 2) end (omega arith), lt-ltb (le16 bytes (at + 1)) limit v, node_of, half_at)

  -- ---- the ways out of `nodes`

  -- what reads an operand
  abbrev operand_at : (depth : ℕ) → Reader
  operand_at depth l q = nodes_at bytes end limit depth l q

  -- what `nodes` owes of its answer
  abbrev pub Scans : Result Scanned ReadError → Type 0
  Scans r = (depth : ℕ) → left ≤ depth → r ≡ scanned_of (nodes_at bytes end limit depth left at)

  pub at_end : end ≤ at → Scans (Err Missing)
  unfolding nodes_at ◌>>=◌ scanned_of
  at_end h zero l = rw (byte_missing bytes end at h, nodes_at)
  at_end h (suc depth) l = rw (byte_missing bytes end at h, nodes_at)

  pub no_node : at < end → left ≡ 0 → Scans (Err (Fault at))
  unfolding nodes_at ◌>>=◌ scanned_of check
  no_node h z zero l = rw (byte_there bytes end at h, nodes_at)
  no_node h z (suc depth) l = rw (byte_there bytes end at h, le-ltb 0 left (omega arith), nodes_at)

  -- a node of which a part is scanned, and how it goes on
  pub record Opens (first : Result Scanned ReadError) : Type 0 where
    pub form : Form
    pub known : get_elem? forms (get_or bytes at 0) ≡ some form
    pub answer : (depth : ℕ) → left ≤ suc depth → then_operand first (operand_at depth) ≡ scanned_of (node_of bytes end limit (operand_at depth) form left at)

  -- the first of two operands
  pub pair_opens : (get_or bytes at 0 ≡ 0 → ⊥) → (get_or bytes at 0 ≡ 1 → ⊥) → get_or bytes at 0 < 5 → (first : Result Scanned ReadError)
      → ((depth : ℕ) → left - 1 ≤ depth → first ≡ scanned_of (nodes_at bytes end limit depth (left - 1) (at + 1))) → Opens first
  unfolding node_of
  pair_opens z o h first scans =
      let operation = pair_form (get_or bytes at 0) z o h in
      record {
        form = two_expressions operation.0;
        known = operation.1;
        answer = λ depth l. ap (λ r. then_operand r (operand_at depth)) (scans depth (omega arith)) ∙ pair_goes operation.0 (operand_at depth (left - 1) (at + 1)) (operand_at depth);
      }

  -- the count of a shift
  pub count_opens : get_or bytes at 0 ≡ 5 → (first : Result Scanned ReadError) → Counts bytes end left at first → Opens first
  count_opens e first counts = record {
    form = count_and_expression shift;
    known = rw e;
    answer = λ depth l. counts limit (operand_at depth);
  }

  module _ (here : at < end) (some_left : left ≡ 0 → ⊥) where
    -- the expression is what stands after its tag
    after_tag : (x : Reader → Nodes)
        → ((operand : Reader) → x operand ≡ (found (get_elem? forms (get_or bytes at 0)) (Fault at) >>= λ form. node_of bytes end limit operand form left at))
        → (r : Result Scanned ReadError) → ((depth : ℕ) → left ≤ suc depth → r ≡ scanned_of (x (operand_at depth)))
        → Scans r
    unfolding nodes_at ◌>>=◌ check
    after_tag x e r k zero l = absurd (some_left (omega arith))
    after_tag x e r k (suc depth) l =
        k depth l ∙ ap scanned_of (e (operand_at depth) ∙ rw (byte_there bytes end at here, lt-ltb 0 left (omega arith), nodes_at))

    pub no_tag : 5 ≤ get_or bytes at 0 → (get_or bytes at 0 ≡ 5 → ⊥) → Scans (Err (Fault at))
    unfolding found ◌>>=◌ scanned_of
    no_tag h five = after_tag (λ operand. Err (Fault at)) (λ operand. rw (past forms (get_or bytes at 0) (omega arith))) (Err (Fault at)) (λ depth l. refl)

    of_form : (form : Form) → get_elem? forms (get_or bytes at 0) ≡ some form → (r : Result Scanned ReadError) → Forms form r → Scans r
    unfolding found ◌>>=◌
    of_form form e r f = after_tag (λ operand. node_of bytes end limit operand form left at) (λ operand. rw e) r (λ depth l. f (operand_at depth))

    pub short_constant : get_or bytes at 0 ≡ 0 → end - at < 5 → Scans (Err Missing)
    unfolding node_of word_at check ◌>>=◌ scanned_of
    short_constant e s = of_form four_byte_constant (rw e) (Err Missing) (λ operand. rw (lt-leb (at + 1 + 4) end (omega arith), node_of, word_at))

    pub whole_constant : get_or bytes at 0 ≡ 0 → 5 ≤ end - at → Scans (Ok (record { next = at + 5; left = left - 1 }))
    unfolding node_of word_at check ◌>>=◌ scanned_of
    whole_constant e s = of_form four_byte_constant (rw e) (Ok _) (λ operand. rw (le-leb (at + 1 + 4) end (omega arith), node_of, word_at))

    pub variable_node : get_or bytes at 0 ≡ 1 → (r : Result Scanned ReadError) → Forms two_byte_variable r → Scans r
    variable_node e r f = of_form two_byte_variable (rw e) r f

    -- a part that stops, and one that an operand follows
    from_opening : (first : Result Scanned ReadError) (o : Opens first) (r : Result Scanned ReadError) → ((depth : ℕ) → left ≤ suc depth → r ≡ then_operand first (operand_at depth)) → Scans r
    unfolding found ◌>>=◌
    from_opening first o r k = after_tag (λ operand. node_of bytes end limit operand o.form left at) (λ operand. rw o.known) r (λ depth l. k depth l ∙ o.answer depth l)

    pub first_stops : (e : ReadError) → Opens (Err e) → Scans (Err e)
    unfolding ◌>>=◌
    first_stops e o = from_opening (Err e) o (Err e) (λ depth l. refl)

    pub both : (s : Scanned) → s.left < left → Opens (Ok s) → (second : Result Scanned ReadError)
        → ((depth : ℕ) → s.left ≤ depth → second ≡ scanned_of (nodes_at bytes end limit depth s.left s.next)) → Scans second
    unfolding ◌>>=◌
    both s few o second scans = from_opening (Ok s) o second (λ depth l. scans depth (omega arith))
