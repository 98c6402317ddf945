-- Laws of new nodes: their facts and values, and the functions that put them, one for each way out. Assumes nothing.
use mathlib.Core.Path.{◌≡◌, refl, sym, ap, subst, ◌∙◌}
use mathlib.Core.Logic.{inr}
use mathlib.Core.Bool.{Bool, true, false, ◌&&◌, and-false}
use mathlib.Core.List.{List}
use Prim.Native.Nat.{ℕ, suc, ◌+◌, ◌*◌, ◌/◌, ◌%◌, ◌^◌, ◌<◌, ◌≤◌}
use native.Mathlib.Omega.{arith}
use lib.Dec.{eqb}
use lib.ListN.{length}
use borrow.Author.Tests.{eqb-true}
use Rattle.model.specs.Term.{Term, shift, eval, size, closed}
use Rattle.model.specs.Expression.{most_count}
use Rattle.model.proofs.Terms.{and_left, and_right}
use Rattle.workspace.specs.Layout.{most_variables, hint_base, stored}
use Rattle.nodes.specs.Table.{low, high, place, parts_at, value_at, marks_at, operation_tag, linear, operation_of, node_of_tag, view_of, build, term_at, term_of, plain, pair_value, capped, facts_from, facts_of, holds_of, value_of, Formed, Space, Put, Fits, Marked, Twinned}
use Rattle.nodes.specs.declared.Operation.{Operation}
use Rattle.nodes.specs.declared.Operation.TheVariants.{Sum, Difference, Mask}
use Rattle.nodes.specs.declared.Node.TheVariants.{Pair, Shift}
use Rattle.workspace.proofs.Frames.{same_refl, same_trans}
use Rattle.nodes.proofs.Facts.{capped_sum, capped_suc, closed_bit, plain_bit, size_in, kept_value, no_value, pair_eval}
use Rattle.nodes.proofs.Table.{formed_less, marks_here, node_order, node_built, value_here, put_node}

-- ---- a term's facts and value, by those of its parts
facts_sized : (tag : ℕ) (c p : Bool) (m n : ℕ) → capped m ≡ capped n → facts_from tag c p m ≡ facts_from tag c p n
facts_sized tag c p m n e = rw e

tag_bound : (o : Operation) → operation_tag o < 8
tag_bound Sum = omega arith
tag_bound Difference = omega arith
tag_bound Mask = omega arith

pair_node : (o : Operation) (p v : ℕ) → node_of_tag (operation_tag o) p v ≡ Pair o (low p) (high p)
pair_node Sum p v = refl
pair_node Difference p v = refl
pair_node Mask p v = refl

-- whether an operation is closed, and whether it is plain, by the same of its parts
closed_pair : (o : Operation) (s t : Term) → (closed s && closed t) ≡ closed (operation_of o s t)
unfolding closed
closed_pair Sum s t = refl
closed_pair Difference s t = refl
closed_pair Mask s t = refl

plain_pair : (o : Operation) (s t : Term) → (linear o && plain s && plain t) ≡ plain (operation_of o s t)
unfolding plain
plain_pair Sum s t = refl
plain_pair Difference s t = refl
plain_pair Mask s t = refl

pair_facts : (o : Operation) (s t : Term) → facts_from (operation_tag o) (closed s && closed t) (linear o && plain s && plain t) (capped (size s) + capped (size t) + 1) ≡ facts_of (operation_of o s t)
unfolding facts_of closed plain size
pair_facts Sum s t = facts_sized 2 (closed s && closed t) (plain s && plain t) _ _ (sym (capped_sum (size s) (size t)))
pair_facts Difference s t = facts_sized 3 (closed s && closed t) (plain s && plain t) _ _ (sym (capped_sum (size s) (size t)))
pair_facts Mask s t = facts_sized 4 (closed s && closed t) false _ _ (sym (capped_sum (size s) (size t)))

shift_facts : (count : ℕ) (s : Term) → facts_from 5 (closed s) false (capped (size s) + 1) ≡ facts_of (shift count s)
unfolding facts_of closed plain size
shift_facts count s = facts_sized 5 (closed s) false _ _ (sym (capped_suc (size s)))

-- where an operation holds a value, so do both its parts
both_hold : (a b l c d : Bool) → ((a && b) && (l && c && d)) ≡ true → ((a && c) ≡ true) × ((b && d) ≡ true)
both_hold a b l c d h =
    let left : (a && b) ≡ true = and_left (a && b) (l && c && d) h in
    let right : (l && c && d) ≡ true = and_right (a && b) (l && c && d) h in
    let is_a : a ≡ true = and_left a b left in
    let is_b : b ≡ true = and_right a b left in
    let is_c : c ≡ true = and_right l c (and_left (l && c) d right) in
    let is_d : d ≡ true = and_right (l && c) d right in
    (rw (is_a, is_c), rw (is_b, is_d))

parts_hold : (o : Operation) (s t : Term) → holds_of (operation_of o s t) ≡ true → (holds_of s ≡ true) × (holds_of t ≡ true)
parts_hold o s t h = both_hold (closed s) (closed t) (linear o) (plain s) (plain t) (rw (closed_pair o s t, plain_pair o s t) h)

-- the value of an operation on two nodes
module _ {ws : List ℕ} {left right : ℕ} (f : Formed ws (suc left)) (g : Formed ws (suc right)) (o : Operation) {b : Bool} (h : b ≡ holds_of (operation_of o (term_at ws left) (term_at ws right))) where
  pub computed_pair : {x y r : ℕ} → b ≡ true → x ≡ value_at ws left → y ≡ value_at ws right → r ≡ pair_value o x y → r ≡ value_of (operation_of o (term_at ws left) (term_at ws right))
  computed_pair l p q e =
      let held = parts_hold o (term_at ws left) (term_at ws right) (sym h ∙ l) in
      e
      ∙ rw (p, q, value_here f, value_here g, kept_value (term_at ws left) true held.0 refl, kept_value (term_at ws right) true held.1 refl) (sym (pair_eval o (term_at ws left) (term_at ws right)))
      ∙ sym (kept_value (operation_of o (term_at ws left) (term_at ws right)) true (sym h ∙ l) refl)

  pub computed_none : b ≡ false → 0 ≡ value_of (operation_of o (term_at ws left) (term_at ws right))
  computed_none l = sym (no_value (operation_of o (term_at ws left) (term_at ws right)) false (sym h ∙ l) refl)

-- ---- the words of a new node
module _ (ws : List ℕ) (top : ℕ) where
  pub fits_constant : {v facts : ℕ} → v < 2 ^ 32 → facts ≡ facts_from 0 true true 1 → Fits ws top 0 v facts
  unfolding facts_of value_of closed plain eval size
  fits_constant h e = rw e (record { order = tt; facts_are = refl; value_is = omega arith })

  pub fits_variable : {v facts : ℕ} → v < most_variables → facts ≡ facts_from 1 false true 1 → Fits ws top v 0 facts
  unfolding facts_of value_of closed plain size
  fits_variable h e = rw e (record { order = h; facts_are = refl; value_is = omega arith })

-- what the marks a of node n say of its term
module _ {ws : List ℕ} {n a : ℕ} (k : Marked ws n) (ea : a ≡ marks_at ws n) where
  abbrev here : Term
  here = term_at ws n

  facts_here : low a ≡ facts_of here
  facts_here = rw ea k.facts

  closed_here : {b : Bool} → b ≡ eqb (a / 8 % 2) 1 → b ≡ closed here
  closed_here e = e ∙ closed_bit a here facts_here

  plain_here : {b : Bool} → b ≡ eqb (a / 32 % 2) 1 → b ≡ plain here
  plain_here e = e ∙ plain_bit a here facts_here

  size_here : {m : ℕ} → m ≡ low a / 64 → m ≡ capped (size here)
  size_here e = e ∙ size_in a here facts_here

-- ---- an operation on two nodes: a and b are their marks; c and d say whether they are closed, p and q whether they are plain
module _ {ws : List ℕ} {top left right : ℕ} (f : Formed ws top) (i : (left < top) × (right < top)) (o : Operation) {a b : ℕ} {l c d p q : Bool}
    (ea : a ≡ marks_at ws left) (eb : b ≡ marks_at ws right) (ec : c ≡ eqb (a / 8 % 2) 1) (ed : d ≡ eqb (b / 8 % 2) 1) (el : l ≡ linear o) (ep : p ≡ eqb (a / 32 % 2) 1) (eq : q ≡ eqb (b / 32 % 2) 1) where
  abbrev pair_of : Term
  pair_of = operation_of o (term_at ws left) (term_at ws right)

  marked_left : Marked ws left
  marked_left = f.shaped.marked left i.0

  marked_right : Marked ws right
  marked_right = f.shaped.marked right i.1

  closed_is : (c && d) ≡ closed pair_of
  closed_is = rw (closed_here marked_left ea ec, closed_here marked_right eb ed) (closed_pair o (term_at ws left) (term_at ws right))

  plain_is : (l && p && q) ≡ plain pair_of
  plain_is = rw (el, plain_here marked_left ea ep, plain_here marked_right eb eq) (plain_pair o (term_at ws left) (term_at ws right))

  pub holds_is : ((c && d) && (l && p && q)) ≡ holds_of pair_of
  holds_is = rw (closed_is, plain_is)

  -- its words: x and y are the nodes that stand for its parts, m and n their sizes
  module _ {x y tag m n value facts : ℕ} (ex : (x ≡ high a) × (x < 65536)) (ey : (y ≡ high b) × (y < 65536)) (et : tag ≡ operation_tag o) (em : m ≡ low a / 64) (en : n ≡ low b / 64)
      (v : value ≡ value_of pair_of) (e : facts ≡ facts_from tag (c && d) (l && p && q) (m + n + 1)) where
    abbrev parts : ℕ
    parts = x + 65536 * y

    joined_facts : facts ≡ facts_of pair_of
    joined_facts =
        e
        ∙ rw (et, closed_here marked_left ea ec, closed_here marked_right eb ed, el, plain_here marked_left ea ep, plain_here marked_right eb eq, size_here marked_left ea em, size_here marked_right eb en)
        (pair_facts o (term_at ws left) (term_at ws right))

    tag_of : facts % 8 ≡ operation_tag o
    tag_of = omega (arith, e, et, tag_bound o)

    low_parts : low parts ≡ high (marks_at ws left)
    low_parts = let l : low parts ≡ x = omega arith in l ∙ ex.0 ∙ ap high ea

    high_parts : high parts ≡ high (marks_at ws right)
    high_parts = let l : high parts ≡ y = omega arith in l ∙ ey.0 ∙ ap high eb

    new_pair : node_of_tag (facts % 8) parts value ≡ Pair o (high (marks_at ws left)) (high (marks_at ws right))
    new_pair = rw tag_of (pair_node o parts value ∙ rw (low_parts, high_parts))

    pair_term : term_of ws parts value facts ≡ pair_of
    pair_term = ap (build (term_at ws)) new_pair ∙ rw (marked_left.twin, marked_right.twin)

    pub fits_pair : Fits ws top parts value facts
    fits_pair = record { order = rw new_pair (omega (arith, marked_left.before), omega (arith, marked_right.before)); facts_are = rw pair_term joined_facts; value_is = rw pair_term v }

    pub put_as_pair : {us : List ℕ} → Put ws us top (term_of ws parts value facts) → Put ws us top pair_of
    put_as_pair {us} u = subst (Put ws us top) pair_term u

-- ---- a shift of a node: a are its marks, x the node that stands for its term
module _ {ws : List ℕ} {top count part : ℕ} (f : Formed ws top) (few : count ≤ most_count) (i : part < top) {a x n facts : ℕ} {b : Bool}
    (ea : a ≡ marks_at ws part) (ex : (x ≡ high a) × (x < 65536)) (eb : b ≡ eqb (a / 8 % 2) 1) (en : n ≡ low a / 64) (e : facts ≡ facts_from 5 b false (n + 1)) where
  abbrev shift_parts : ℕ
  shift_parts = x + 65536 * count

  marked_part : Marked ws part
  marked_part = f.shaped.marked part i

  low_shift : low shift_parts ≡ high (marks_at ws part)
  low_shift = let l : low shift_parts ≡ x = omega arith in l ∙ ex.0 ∙ ap high ea

  high_shift : high shift_parts ≡ count
  high_shift = omega arith

  shift_node : node_of_tag (facts % 8) shift_parts 0 ≡ Shift count (high (marks_at ws part))
  shift_node = let m : facts % 8 ≡ 5 = omega arith in rw (m, low_shift, high_shift)

  shift_term : term_of ws shift_parts 0 facts ≡ shift count (term_at ws part)
  shift_term = ap (build (term_at ws)) shift_node ∙ ap (shift count) marked_part.twin

  pub fits_shift : Fits ws top shift_parts 0 facts
  unfolding value_of plain
  fits_shift = record {
    order = rw shift_node (omega (arith, marked_part.before));
    facts_are = rw shift_term (e ∙ rw (closed_here marked_part ea eb, size_here marked_part ea en) (shift_facts count (term_at ws part)));
    value_is = rw (shift_term, and-false (closed (shift count (term_at ws part)))) (omega arith);
  }

  pub put_as_shift : {us : List ℕ} → Put ws us top (term_of ws shift_parts 0 facts) → Put ws us top (shift count (term_at ws part))
  put_as_shift {us} p = subst (Put ws us top) shift_term p

-- ---- the node for words
module _ {ws : List ℕ} {top parts value facts : ℕ} where
  pub find_hinted : {n : ℕ} → n < top → true ≡ (eqb (parts_at ws n) parts && eqb (value_at ws n) value && eqb (low (marks_at ws n)) facts) → Twinned ws ws top parts value facts n
  unfolding view_of
  find_hinted {n} h e =
      let a : Bool = eqb (parts_at ws n) parts in
      let b : Bool = eqb (value_at ws n) value in
      let c : Bool = eqb (low (marks_at ws n)) facts in
      let x : parts_at ws n ≡ parts = eqb-true (parts_at ws n) parts (and_left a b (and_left (a && b) c (sym e))) in
      let y : value_at ws n ≡ value = eqb-true (value_at ws n) value (and_right a b (and_left (a && b) c (sym e))) in
      let z : low (marks_at ws n) ≡ facts = eqb-true (low (marks_at ws n)) facts (and_right (a && b) c (sym e)) in
      let t : marks_at ws n % 8 ≡ facts % 8 = omega arith in
      record { kept = same_refl 0 hint_base ws; found = inr (h, rw (t, x, y)) }

-- ---- a node that is kept: it is put again with its own words, and then stands for the same term
module _ {ws : List ℕ} {top parts value marks facts : ℕ} (f : Formed ws (suc top)) (p : parts ≡ parts_at ws top) (v : value ≡ value_at ws top) (m : marks ≡ marks_at ws top) (e : (facts ≡ low marks) × (facts < 65536)) where
  own_node : node_of_tag (facts % 8) parts value ≡ view_of ws top
  unfolding view_of
  own_node =
      let t : facts % 8 ≡ marks_at ws top % 8 = omega arith in
      rw (t, p, v)

  own_term : term_of ws parts value facts ≡ term_at ws top
  own_term = sym (node_built f.shaped own_node)

  own_facts : facts ≡ low (marks_at ws top)
  own_facts = e.0 ∙ ap low m

  own_fits : Fits ws top parts value facts
  own_fits = record {
    order = node_order f.shaped own_node;
    facts_are = own_facts ∙ (marks_here f.shaped).facts ∙ ap facts_of (sym own_term);
    value_is = v ∙ value_here f ∙ ap value_of (sym own_term);
  }

  own_space : Space ws top 1
  own_space = record { words = f.shaped.words; fits = omega (arith, f.shaped.fits) }

  pub kept_node : {vs us : List ℕ} {first : ℕ} → Twinned ws vs top parts value facts first → length vs ≡ length ws → us ≡ stored vs (place top) parts value (facts + 65536 * first) → Put ws us top (term_at ws top)
  kept_node {us = us} t l s = subst (Put ws us top) own_term (put_node (formed_less top (omega arith) f) own_space own_fits e.1 t l s)

-- a node that is put and then kept
pub put_kept : {ws us vs : List ℕ} {top : ℕ} {t : Term} → Put ws us top t → Put us vs top (term_at us top) → Put ws vs top t
put_kept p q = record { kept = same_trans p.kept q.kept; formed = q.formed; is = q.is ∙ p.is }
