-- Laws of the coefficient area: one for each way out. Assumes nothing.
use mathlib.Core.Path.{◌≡◌, refl, ap, ◌∙◌}
use mathlib.Core.Logic.{◌≢◌}
use mathlib.Core.Bool.{Bool, true, not, ◌&&◌}
use mathlib.Core.List.{List, ◌++◌}
use Prim.Native.Nat.{ℕ, suc, ◌+◌, ◌^◌, ◌≤◌, ◌<◌, max}
use native.Mathlib.Numerals.{add-one}
use native.Mathlib.Omega.{arith}
use native.Mathlib.Decide.{ℕ_discrete}
use lib.ListN.{length, get_or, set, take, drop, length-set, length-append, get_or-append}
use lib.Seq.{get_or-set_same, get_or-set_other}
use lib.Dec.{eqb}
use Rattle.std.proofs.lemmas.List.{take-append-drop, set-append_left}
use Rattle.model.specs.Term.{Term, constant, variable, sum, difference}
use Rattle.model.specs.Linear.{variable_bound}
use Rattle.model.proofs.Terms.{and_left, and_right}
use Rattle.workspace.specs.Layout.{table_base, Same, constant_word, area_words}
use Rattle.nodes.specs.Table.{place, view_of, term_at, plain, Formed}
use Rattle.nodes.specs.declared.Node.TheVariants.{Constant, Variable, Pair, Shift}
use Rattle.nodes.specs.declared.Operation.{Operation}
use Rattle.nodes.specs.declared.Operation.TheVariants.{Sum, Difference, Mask}
use Rattle.workspace.proofs.Frames.{same_refl, same_within, same_trans}
use Rattle.nodes.proofs.Table.{node_order, node_built, part, term_same, formed_same}
use Rattle.forms.specs.Area.{form_at, signed, Bounded, Tree, Accumulated, Cleared, all_zero, Emptied}
use Rattle.forms.proofs.Forms.{signed_zero, constant_here, constant_else, variable_here, variable_else, word_sum, word_difference, clash}

-- ---- words that keep the area, or the table
pub cleared_same : {ws us : List ℕ} → Same 0 area_words ws us → Cleared ws → Cleared us
cleared_same s c = record { word = λ k h. s.word k (omega arith) h ∙ c.word k h }

pub bounded_same : {ws us : List ℕ} {i b : ℕ} → Same table_base (place (suc i)) ws us → length us ≡ length ws → Bounded ws i b → Bounded us i b
bounded_same {ws} {us} {i} s e h = record { formed = formed_same (suc i) s e h.formed; within = rw (term_same (suc i) s i (omega arith)) h.within }

-- accumulating keeps the table
module _ {ws us : List ℕ} {n : Bool} {t : Term} (a : Accumulated ws us n t) {i : ℕ} where
  table_kept : Formed ws (suc i) → Same table_base (place (suc i)) ws us
  table_kept f = same_within table_base (place (suc i)) (omega arith) (omega (arith, f.shaped.words, f.shaped.fits)) a.above

  pub term_kept : Formed ws (suc i) → term_at us i ≡ term_at ws i
  term_kept f = term_same (suc i) (table_kept f) i (omega arith)

  pub tree_kept : {b : ℕ} → Tree ws i b → Tree us i b
  tree_kept h = record { formed = formed_same (suc i) (table_kept h.formed) a.long h.formed; within = rw (term_kept h.formed) h.within; plain_term = rw (term_kept h.formed) h.plain_term }

pub bounded_more : {ws : List ℕ} {i b : ℕ} (c : ℕ) → b ≤ c → Bounded ws i b → Bounded ws i c
bounded_more c l h = record { formed = h.formed; within = omega (arith, h.within) }

-- ---- node i has two parts, of which the first is accumulated and then the second
pub record Parts (ws : List ℕ) (i b l r : ℕ) : Type 0 where
  pub order : (l < i) × (r < i)
  pub left : Tree ws l b
  pub right : Tree ws r b

module _ {ws : List ℕ} {i t l r b : ℕ} (e : i ≡ t) (p : Parts ws i b l r) where
  pub first : (l < t) × Tree ws l b
  first = (omega (arith, p.order), p.left)

  pub second : {us : List ℕ} {n : Bool} {q : Term} → Accumulated ws us n q → (r < t) × Tree us r b
  second a = (omega (arith, p.order), tree_kept a p.right)

-- as an arm of `match view(..)` knows it
module _ {ws : List ℕ} {i b : ℕ} (h : Tree ws i b) where
  parts : {l r : ℕ} → (l < i) × (r < i) → max (variable_bound (term_at ws l)) (variable_bound (term_at ws r)) ≤ b → (plain (term_at ws l) && plain (term_at ws r)) ≡ true → Parts ws i b l r
  parts {l} {r} o k p = record {
    order = o;
    left = record { formed = part h.formed o.0; within = omega arith; plain_term = and_left (plain (term_at ws l)) (plain (term_at ws r)) p };
    right = record { formed = part h.formed o.1; within = omega arith; plain_term = and_right (plain (term_at ws l)) (plain (term_at ws r)) p };
  }

  -- of a sum or a difference: no mask stands here
  pub pair_parts : (o : Operation) {l r : ℕ} → Pair o l r ≡ view_of ws i → Parts ws i b l r
  unfolding variable_bound plain
  pair_parts Sum e = parts (node_order h.formed.shaped e) (rw (node_built h.formed.shaped e) at h.within) (rw (node_built h.formed.shaped e) at h.plain_term)
  pair_parts Difference e = parts (node_order h.formed.shaped e) (rw (node_built h.formed.shaped e) at h.within) (rw (node_built h.formed.shaped e) at h.plain_term)
  pair_parts Mask e = clash refl (rw (node_built h.formed.shaped e) at h.plain_term)

  pub no_mask : {l r : ℕ} {A : Type 0} → Pair Mask l r ≡ view_of ws i → A
  unfolding plain
  no_mask e = clash refl (rw (node_built h.formed.shaped e) at h.plain_term)

  pub no_shift : {count part : ℕ} {A : Type 0} → Shift count part ≡ view_of ws i → A
  unfolding plain
  no_shift e = clash refl (rw (node_built h.formed.shaped e) at h.plain_term)

  pub variable_within : {x : ℕ} → Variable x ≡ view_of ws i → x < b
  unfolding variable_bound
  variable_within e = let k = rw (node_built h.formed.shaped e) at h.within in omega arith

-- ---- accumulated
-- where word p alone changes, by x
changed : {ws us : List ℕ} {n : Bool} (t : Term) (p x : ℕ) → p < area_words → area_words ≤ length ws
    → us ≡ set ws p (signed n (get_or ws p 0) x)
    → ((k : ℕ) → get_or us k 0 < 2 ^ 32)
    → form_at p t ≡ x
    → ((k : ℕ) → k < area_words → k ≢ p → form_at k t ≡ 0)
    → Accumulated ws us n t
changed {ws} {us} {n} t p x h room e words here else = record {
  area = λ k l. rw e (go k l (ℕ_discrete k p));
  above = record { word = λ k l m. rw e (get_or-set_other ws p k _ 0 (omega arith)) };
  long = ap length e ∙ simp length-set;
}
  where
    go : (k : ℕ) → k < area_words → Dec (k ≡ p) → get_or (set ws p (signed n (get_or ws p 0) x)) k 0 ≡ signed n (get_or ws k 0) (form_at k t)
    go k l (yes m) = rw (m, here) (get_or-set_same ws p _ 0 (omega arith))
    go k l (no m) =
        let kept : get_or us k 0 ≡ get_or ws k 0 = rw e (get_or-set_other ws p k _ 0 m) in
        rw (else k l m) (get_or-set_other ws p k _ 0 m ∙ signed_zero n (get_or ws k 0) (rw kept at (words k)))

-- where one term's form is accumulated after another's
pub above_both : {ws us vs : List ℕ} {m o : Bool} {p q : Term} → Accumulated ws us m p → Accumulated us vs o q → Same area_words (length ws) ws vs
above_both {ws} a b = same_trans a.above (same_within area_words (length ws) (omega arith) (omega (arith, a.long)) b.above)

accumulated_both : {ws us vs : List ℕ} {m o : Bool} {p q : Term} (n : Bool) (t : Term) → Accumulated ws us m p → Accumulated us vs o q
    → ((k : ℕ) → k < area_words → get_or vs k 0 ≡ signed n (get_or ws k 0) (form_at k t))
    → Accumulated ws vs n t
accumulated_both n t a b w = record {
  area = w;
  above = above_both a b;
  long = b.long ∙ a.long;
}

module _ {ws us : List ℕ} {i b : ℕ} {n : Bool} (h : Tree ws i b) where
  module _ (words : (k : ℕ) → get_or us k 0 < 2 ^ 32) where
    pub accumulated_constant : {c : ℕ} → Constant c ≡ view_of ws i → c < 2 ^ 32 → us ≡ set ws constant_word (signed n (get_or ws constant_word 0) c) → Accumulated ws us n (term_at ws i)
    accumulated_constant {c} e l s =
        rw (node_built h.formed.shaped e)
        (changed (constant c) constant_word c (omega arith) (omega (arith, h.formed.shaped.words, h.formed.shaped.fits)) s words (constant_here c l) (λ k d f. constant_else k c d f))

    pub accumulated_variable : {x : ℕ} → Variable x ≡ view_of ws i → x < constant_word → us ≡ set ws x (signed n (get_or ws x 0) 1) → Accumulated ws us n (term_at ws i)
    accumulated_variable {x} e l s =
        rw (node_built h.formed.shaped e)
        (changed (variable x) x 1 (omega arith) (omega (arith, h.formed.shaped.words, h.formed.shaped.fits)) s words (variable_here x (omega arith)) (λ k d f. variable_else k x f))

  module _ {vs : List ℕ} {l r : ℕ} (f : Accumulated ws us n (term_at ws l)) where
    pub accumulated_sum : Pair Sum l r ≡ view_of ws i → Accumulated us vs n (term_at us r) → Accumulated ws vs n (term_at ws i)
    accumulated_sum e g =
        rw (node_built h.formed.shaped e)
        (accumulated_both n (sum (term_at ws l) (term_at ws r)) f g (λ k d. word_sum k (term_at ws l) (term_at ws r) n (get_or ws k 0) (f.area k d) (rw (term_kept f (pair_parts h Sum e).right.formed) at (g.area k d))))

    pub accumulated_difference : Pair Difference l r ≡ view_of ws i → Accumulated us vs (not n) (term_at us r) → Accumulated ws vs n (term_at ws i)
    accumulated_difference e g =
        rw (node_built h.formed.shaped e)
        (accumulated_both n (difference (term_at ws l) (term_at ws r)) f g (λ k d. word_difference k (term_at ws l) (term_at ws r) n (get_or ws k 0) (f.area k d) (rw (term_kept f (pair_parts h Difference e).right.formed) at (g.area k d))))

-- ---- emptied, word by word: us is the front of the words, and rest what stands after it
pub emptied_none : (n : ℕ) (ws : List ℕ) → Emptied ws (take n ws ++ drop n ws) 0 true
unfolding all_zero
emptied_none n ws = rw (take-append-drop n ws) (record { is = refl; zeros = λ k h. omega arith; above = same_refl 0 (length ws) ws; long = refl })

pub emptied_more : {ws : List ℕ} (us rest : List ℕ) {n x y : ℕ} {r : Bool} → Emptied ws (us ++ rest) n r → n < length us → x ≡ get_or us n 0 → y ≡ 0 → Emptied ws (set us n y ++ rest) (n + 1) (r && eqb x 0)
unfolding all_zero
emptied_more {ws} us rest {n} {x} {y} {r} t h e z = rw (z, ← set-append_left us rest n 0 h) (record {
  is = rw (add-one n, e, t.is, ← t.above.word n (omega arith) (rw t.long at inside), get_or-append us rest 0 n h);
  zeros = λ k l. go k l (ℕ_discrete k n);
  above = record { word = λ k l m. get_or-set_other (us ++ rest) n k 0 0 (omega arith) ∙ t.above.word k (omega arith) m };
  long = simp length-set t.long;
})
  where
    inside : n < length (us ++ rest)
    inside = simp length-append (omega arith)

    go : (k : ℕ) → k < n + 1 → Dec (k ≡ n) → get_or (set (us ++ rest) n 0) k 0 ≡ 0
    go k l (yes m) = rw m (get_or-set_same (us ++ rest) n 0 0 inside)
    go k l (no m) = get_or-set_other (us ++ rest) n k 0 0 m ∙ t.zeros k (omega arith)
