-- Laws of weights: what the functions over the table give to the area. Assumes nothing.
use mathlib.Core.Path.{◌≡◌, refl, sym, ap, subst, ◌∙◌}
use mathlib.Core.Logic.{◌≢◌}
use mathlib.Core.Bool.{Bool, true, false, ◌&&◌}
use mathlib.Core.List.{List}
use Prim.Native.Nat.{ℕ, zero, suc, ◌+◌, ◌-◌, ◌*◌, ◌/◌, ◌%◌, ◌^◌, ◌≤◌, ◌<◌, max}
use native.Mathlib.Omega.{arith}
use native.Mathlib.Decide.{dec_lt, ℕ_discrete}
use lib.ListN.{length, get_or, set, length-set}
use lib.Seq.{get_or-set_same, get_or-set_other}
use lib.Dec.{eqb}
use Rattle.model.specs.Word.{add_w, sub_w}
use Rattle.model.specs.Term.{Term, constant, variable, sum, difference, mask, shift, closed}
use Rattle.model.specs.Linear.{variable_bound}
use Rattle.model.proofs.Words.{◌≈◌, mul_cong, add_cong, add_plain, sub_plain, add_below}
use Rattle.model.proofs.Terms.{and_left, and_right}
use Rattle.workspace.specs.Layout.{table_base, constant_word, area_words, hint_base}
use Rattle.nodes.specs.Table.{place, parts_at, value_at, marks_at, valued_at, node_of_tag, view_of, term_at, plain, InOrder, Shaped, Formed}
use Rattle.nodes.specs.declared.Node.{Node}
use Rattle.nodes.specs.declared.Node.TheVariants.{Constant, Variable, Pair, Shift}
use Rattle.nodes.specs.declared.Operation.TheVariants.{Sum, Difference, Mask}
use Rattle.nodes.proofs.Table.{formed_less, node_order, node_built, marks_here, term_viewed, shaped_viewed}
use Rattle.nodes.proofs.Facts.{valued_at_lem, value_is_kept, no_value_zero}
use Rattle.forms.specs.Area.{form_at, Comparable}
use Rattle.forms.specs.Entries.{opaque, Entry, in_word, of_term, Valid, number_at}
use Rattle.weights.specs.Weights.{area_at, given_to, total, Allowed, Loaded, Weighed, Weighable, Passed, Spread}
use Rattle.forms.proofs.Forms.{clash, form_word, number_word, number_sum, number_difference, variable_here, Single, single_variable, single_valued, valued_here, opaque_form, sub_only}

-- ---- products and sums modulo 2^32
more_weight : (a x w f : ℕ) → a + (add_w x w - 0) * f ≈ a + (x - 0) * f + w * f
more_weight a x w f =
    let d : add_w x w - 0 ≡ add_w x w = omega arith in
    let e : x - 0 ≡ x = omega arith in
    rw (d, e) (omega (arith, mul_cong (add_w x w) (x + w) f (add_plain x w)))

more_both : (a b x y : ℕ) → a ≈ b + y → a + x ≈ b + x + y
more_both a b x y h = omega arith

area_here : (u y a w f : ℕ) → u + a ≈ w → y ≈ f → add_w u y + a ≈ w + f
area_here u y a w f h k = add_cong (add_w u y) (u + y) a a (add_plain u y) refl ∙ ap (λ x. x % 2 ^ 32) (omega arith) ∙ add_cong (u + a) w y f h k

area_else : (u a w f : ℕ) → u + a ≈ w → f ≈ 0 → u + a ≈ w + f
area_else u a w f h k = omega arith

parts_sum : (a w x y v : ℕ) → a + w * add_w x y ≈ v → a + w * x + w * y ≈ v
parts_sum a w x y v h = omega (arith, mul_cong (add_w x y) (x + y) w (add_plain x y))

parts_difference : (a w x y v : ℕ) → w < 2 ^ 32 → y < 2 ^ 32 → a + w * sub_w x y ≈ v → a + w * x + sub_w 0 w * y ≈ v
parts_difference a w x y v l m h =
    let d : ℕ = sub_w x y in
    let s : ℕ = sub_w 0 w in
    ap (λ z. z % 2 ^ 32) (let e : a + w * x + s * y ≡ (a + s * y) + x * w = omega arith in e)
    ∙ add_cong (a + s * y) (a + s * y) (x * w) ((d + y) * w) refl (sym (mul_cong (d + y) x w (sub_plain x y m)))
    ∙ ap (λ z. z % 2 ^ 32) (let e : (a + s * y) + (d + y) * w ≡ (a + w * d) + (s + w) * y = omega arith in e)
    ∙ add_cong (a + w * d) v ((s + w) * y) (0 * y) h (mul_cong (s + w) 0 y (sub_plain 0 w l))
    ∙ ap (λ z. z % 2 ^ 32) (let e : v + 0 * y ≡ v = omega arith in e)

-- ---- what the weights add
pub total_same : (ws us vs : List ℕ) (e : Entry) (n : ℕ) → ((k : ℕ) → k < n → value_at vs k ≡ value_at us k) → total ws vs e n ≡ total ws us e n
unfolding total
total_same ws us vs e zero h = refl
total_same ws us vs e (suc n) h = rw (total_same ws us vs e n (λ k l. h k (omega arith)), h n (omega arith))

-- nothing, where each node has no weight or no such number
pub total_zero : (ws us : List ℕ) (e : Entry) (n : ℕ) → ((k : ℕ) → k < n → value_at us k ≢ value_at ws k → number_at e (term_at ws k) ≡ 0) → total ws us e n ≡ 0
unfolding total
total_zero ws us e zero h = refl
total_zero ws us e (suc n) h = rw (total_zero ws us e n (λ k l d. h k (omega arith) d)) (go (ℕ_discrete (value_at us n) (value_at ws n)))
  where
    go : Dec (value_at us n ≡ value_at ws n) → 0 + (value_at us n - value_at ws n) * number_at e (term_at ws n) ≡ 0
    go (yes q) = let z : value_at us n - value_at ws n ≡ 0 = omega arith in rw z (omega arith)
    go (no q) = rw (h n (omega arith) q) (omega arith)

module _ (ws us vs : List ℕ) (e : Entry) (k w : ℕ) (z : value_at ws k ≡ 0) (q : value_at vs k ≡ add_w (value_at us k) w) (h : (m : ℕ) → m ≢ k → value_at vs m ≡ value_at us m) where
  pub total_more : (n : ℕ) → k < n → total ws vs e n ≈ total ws us e n + w * number_at e (term_at ws k)
  unfolding total
  total_more zero l = absurd (omega arith)
  total_more (suc n) l = go (total_more n) (ℕ_discrete n k)
    where
      go : (k < n → total ws vs e n ≈ total ws us e n + w * number_at e (term_at ws k)) → Dec (n ≡ k) → total ws vs e (suc n) ≈ total ws us e (suc n) + w * number_at e (term_at ws k)
      go before (yes d) = rw (d, total_same ws us vs e k (λ m r. h m (omega arith)), q, z) (more_weight (total ws us e k) (value_at us k) w (number_at e (term_at ws k)))
      go before (no d) = rw (h n d) (more_both (total ws vs e n) (total ws us e n) ((value_at us n - value_at ws n) * number_at e (term_at ws n)) (w * number_at e (term_at ws k)) (before (omega arith)))

-- ---- words with weights
-- a node without a value reads as it does without weights
by_tag : (t p v w : ℕ) → t ≢ 0 → node_of_tag t p v ≡ node_of_tag t p w
by_tag zero p v w h = absurd (h refl)
by_tag (suc zero) p v w h = refl
by_tag (suc (suc zero)) p v w h = refl
by_tag (suc (suc (suc zero))) p v w h = refl
by_tag (suc (suc (suc (suc zero)))) p v w h = refl
by_tag (suc (suc (suc (suc (suc t))))) p v w h = refl

constant_valued : {ws : List ℕ} {k c : ℕ} → Formed ws (suc k) → view_of ws k ≡ Constant c → valued_at ws k ≡ true
unfolding closed plain
constant_valued {ws} {k} t e = valued_at_lem (marks_here t.shaped) ∙ rw (node_built t.shaped (sym e))

tag_open : {ws : List ℕ} {k : ℕ} → Formed ws (suc k) → valued_at ws k ≡ false → marks_at ws k % 8 ≢ 0
unfolding view_of
tag_open {ws} {k} t o e = clash o (constant_valued {c = value_at ws k} t (rw e))

module _ {ws us : List ℕ} {n m : ℕ} (g : Loaded ws us n m) where
  module _ (t : Formed ws n) (k : ℕ) (h : k < n) where
    inside : place k + 3 ≤ hint_base
    inside = omega (arith, t.shaped.fits)

    pub parts_kept : parts_at us k ≡ parts_at ws k
    parts_kept = g.kept (place k) (omega arith) (omega (arith, inside)) (λ j l o. omega arith)

    pub marks_kept : marks_at us k ≡ marks_at ws k
    marks_kept = g.kept (place k + 2) (omega arith) (omega (arith, inside)) (λ j l o. omega arith)

    pub valued_kept : valued_at us k ≡ valued_at ws k
    valued_kept = ap (λ x. eqb (x / 16 % 2) 1) marks_kept

    pub value_kept : valued_at ws k ≡ true → value_at us k ≡ value_at ws k
    value_kept c = g.kept (place k + 1) (omega arith) (omega (arith, inside)) (λ j l o e. let d : j ≡ k = omega arith in clash (rw d at o) c)

  module _ (t : Formed ws n) where
    pub view_kept : (k : ℕ) → k < n → view_of us k ≡ view_of ws k
    unfolding view_of
    view_kept k h = rw (marks_kept t k h, parts_kept t k h) (go (valued_at ws k) refl)
      where
        go : (b : Bool) → valued_at ws k ≡ b → node_of_tag (marks_at ws k % 8) (parts_at ws k) (value_at us k) ≡ node_of_tag (marks_at ws k % 8) (parts_at ws k) (value_at ws k)
        go true o = rw (value_kept t k h o)
        go false o = by_tag (marks_at ws k % 8) (parts_at ws k) (value_at us k) (value_at ws k) (tag_open (formed_less (suc k) h t) o)

    pub term_kept : (k : ℕ) → k < n → term_at us k ≡ term_at ws k
    term_kept = term_viewed ws us n view_kept

    pub shaped_kept : Shaped us n
    shaped_kept = shaped_viewed ws us n view_kept (λ i h. marks_kept t i h) g.long t.shaped

  -- another weight at a node that may have one
  pub loaded_set : {vs : List ℕ} (k v : ℕ) → k < n → valued_at ws k ≡ false → (m ≤ k → opaque (term_at ws k) ≡ true) → vs ≡ set us (place k + 1) v → Loaded ws vs n m
  loaded_set {vs} k v h o i e = record {
    long = ap length e ∙ simp length-set g.long;
    kept = λ p l r d. other p (d k h o) ∙ g.kept p l r d;
    left = λ j l q d. go j l q d (ℕ_discrete j k);
  }
    where
      other : (p : ℕ) → p ≢ place k + 1 → get_or vs p 0 ≡ get_or us p 0
      other p d = rw e (get_or-set_other us (place k + 1) p _ 0 d)

      go : (j : ℕ) → m ≤ j → j < n → value_at vs j ≢ value_at ws j → Dec (j ≡ k) → opaque (term_at ws j) ≡ true
      go j l q d (yes r) = rw r (i (omega arith))
      go j l q d (no r) = g.left j l q (λ x. d (other (place j + 1) (omega arith) ∙ x))

-- words that differ from us at one node's weight
module _ (us vs : List ℕ) (k v : ℕ) (e : vs ≡ set us (place k + 1) v) where
  pub weight_other : (p : ℕ) → p ≢ place k + 1 → get_or vs p 0 ≡ get_or us p 0
  weight_other p d = rw e (get_or-set_other us (place k + 1) p _ 0 d)

  pub weight_own : place (suc k) ≤ length us → value_at vs k ≡ v
  weight_own h = rw e (get_or-set_same us (place k + 1) _ 0 (omega arith))

module _ {ws us : List ℕ} {n m : ℕ} {only : Bool} {want : Entry → ℕ} (g : Weighed ws us n m only want) where
  weighed_as : (other : Entry → ℕ) → ((e : Entry) → Valid e → want e ≈ other e) → Weighed ws us n m only other
  weighed_as other h = record { loaded = g.loaded; small = g.small; within = g.within; sums = λ e l. g.sums e l ∙ h e l }

  -- y added to word x of the area, which is all that f has
  module _ {vs : List ℕ} (x y : ℕ) (f : Entry → ℕ) (h : x < area_words) (room : area_words ≤ length us) (e : vs ≡ set us x (add_w (get_or us x 0) y)) (here : y ≈ f (in_word x))
      (words : (p : ℕ) → p < area_words → p ≢ x → f (in_word p) ≈ 0) (terms : (t : Term) → opaque t ≡ true → f (of_term t) ≈ 0) where
    area_other : (p : ℕ) → p ≢ x → get_or vs p 0 ≡ get_or us p 0
    area_other p d = rw e (get_or-set_other us x p _ 0 d)

    area_own : get_or vs x 0 ≡ add_w (get_or us x 0) y
    area_own = rw e (get_or-set_same us x _ 0 (omega arith))

    area_total : (q : Entry) → total ws vs q n ≡ total ws us q n
    area_total q = total_same ws us vs q n (λ k l. area_other (place k + 1) (omega arith))

    area_more : Weighed ws vs n m only (λ q. want q + f q)
    area_more = record {
      loaded = record {
        long = ap length e ∙ simp length-set g.loaded.long;
        kept = λ p l r k. area_other p (omega arith) ∙ g.loaded.kept p l r k;
        left = λ k l r d. g.loaded.left k l r (λ q. d (area_other (place k + 1) (omega arith) ∙ q));
      };
      small = λ p l. word p l (ℕ_discrete p x);
      within = λ k l d. g.within k l (λ q. d (area_other (place k + 1) (omega arith) ∙ q));
      sums = λ q l. rw (area_total q) (adds q l);
    }
      where
        word : (p : ℕ) → p < area_words → Dec (p ≡ x) → get_or vs p 0 < 2 ^ 32
        word p l (yes d) = rw (d, area_own) (add_below (get_or us x 0) y)
        word p l (no d) = rw (area_other p d) (g.small p l)

        in_word_lem : (p : ℕ) → p < area_words → Dec (p ≡ x) → get_or vs p 0 + total ws us (in_word p) n ≈ want (in_word p) + f (in_word p)
        in_word_lem p l (yes d) = rw (d, area_own) (area_here (get_or us x 0) y (total ws us (in_word x) n) (want (in_word x)) (f (in_word x)) (g.sums (in_word x) h) here)
        in_word_lem p l (no d) = rw (area_other p d) (area_else (get_or us p 0) (total ws us (in_word p) n) (want (in_word p)) (f (in_word p)) (g.sums (in_word p) l) (words p l d))

        adds : (q : Entry) → Valid q → area_at vs q + total ws us q n ≈ want q + f q
        adds (in_word p) l = in_word_lem p l (ℕ_discrete p x)
        adds (of_term t) o = area_else 0 (total ws us (of_term t) n) (want (of_term t)) (f (of_term t)) (g.sums (of_term t) o) (terms t o)

  -- w added to the weight of node k, which comes before node m
  module _ {vs : List ℕ} (k w : ℕ) (t : Formed ws n) (h : k < n) (i : k < m) (o : valued_at ws k ≡ false) (b : Allowed only (term_at ws k)) (e : vs ≡ set us (place k + 1) (add_w (value_at us k) w)) where
    weight_area : (q : Entry) → Valid q → area_at vs q ≡ area_at us q
    weight_area (in_word p) l = weight_other us vs k _ e p (omega arith)
    weight_area (of_term x) l = refl

    weight_more : Weighed ws vs n m only (λ q. want q + w * number_at q (term_at ws k))
    weight_more = record {
      loaded = loaded_set g.loaded k (add_w (value_at us k) w) h o (λ l. absurd (omega arith)) e;
      small = λ p l. rw (weight_other us vs k _ e p (omega arith)) (g.small p l);
      within = λ j l d. bound j l d (ℕ_discrete j k);
      sums = λ q l. rw (weight_area q l) (adds q l);
    }
      where
        bound : (j : ℕ) → j < n → value_at vs j ≢ value_at ws j → Dec (j ≡ k) → Allowed only (term_at ws j)
        bound j l d (yes q) = rw q b
        bound j l d (no q) = g.within j l (λ r. d (weight_other us vs k _ e (place j + 1) (omega arith) ∙ r))

        adds : (q : Entry) → Valid q → area_at us q + total ws vs q n ≈ want q + w * number_at q (term_at ws k)
        adds q l = omega (arith, g.sums q l, total_more ws us vs q k w (no_value_zero (formed_less (suc k) h t) o) (weight_own us vs k _ e (omega (arith, t.shaped.words, t.shaped.fits, g.loaded.long))) (λ j d. weight_other us vs k _ e (place j + 1) (omega arith)) n h)

  -- w times the form of node k's term given
  give_more : {vs : List ℕ} (k w : ℕ) → Formed ws n → k < n → k < m → Allowed only (term_at ws k) → vs ≡ given_to (valued_at us k) us k w → Weighed ws vs n m only (λ q. want q + w * number_at q (term_at ws k))
  give_more {vs} k w t h i b e = go (valued_at ws k) refl (rw (valued_kept g.loaded t k h) at e)
    where
      here : Formed ws (suc k)
      here = formed_less (suc k) h t

      go : (c : Bool) → valued_at ws k ≡ c → vs ≡ given_to c us k w → Weighed ws vs n m only (λ q. want q + w * number_at q (term_at ws k))
      go false o d = weight_more k w t h i o b d
      go true o d =
          let v : (closed (term_at ws k) && plain (term_at ws k)) ≡ true = sym (valued_at_lem (marks_here here.shaped)) ∙ o in
          let c : closed (term_at ws k) ≡ true = and_left (closed (term_at ws k)) (plain (term_at ws k)) v in
          let p : plain (term_at ws k) ≡ true = and_right (closed (term_at ws k)) (plain (term_at ws k)) v in
          let f : form_at constant_word (term_at ws k) ≡ value_at us k = valued_here (term_at ws k) c p ∙ sym (value_is_kept here o) ∙ sym (value_kept g.loaded t k h o) in
          let s : Single constant_word (term_at ws k) = single_valued (term_at ws k) c p in
          area_more constant_word (w * value_at us k % 2 ^ 32) (λ q. w * number_at q (term_at ws k)) (omega arith) (omega (arith, t.shaped.words, t.shaped.fits, g.loaded.long)) d (rw f (omega arith))
          (λ r l n. rw (s.words r l n) (omega arith)) (λ x l. rw (s.terms x l) (omega arith))

-- ---- node k, the last with a weight that is still to be given
module _ {ws us : List ℕ} {n k : ℕ} {only : Bool} {want : Entry → ℕ} (h : k < n) (t : Formed ws n) (g : Weighed ws us n (suc k) only want) where
  here : Formed ws (suc k)
  here = formed_less (suc k) h t

  -- where it has none, or keeps it
  pass_left : (value_at us k ≢ value_at ws k → opaque (term_at ws k) ≡ true) → Weighed ws us n k only want
  pass_left o = record {
    loaded = record { long = g.loaded.long; kept = g.loaded.kept; left = λ j l q d. go j l q d (ℕ_discrete j k) };
    small = g.small;
    within = g.within;
    sums = g.sums;
  }
    where
      go : (j : ℕ) → k ≤ j → j < n → value_at us j ≢ value_at ws j → Dec (j ≡ k) → opaque (term_at ws j) ≡ true
      go j l q d (yes r) = rw r (o (λ e. d (rw r e)))
      go j l q d (no r) = g.loaded.left j (omega arith) q d

  module _ (o : valued_at us k ≡ false) where
    open_here : valued_at ws k ≡ false
    open_here = sym (valued_kept g.loaded t k h) ∙ o

    value_zero : value_at ws k ≡ 0
    value_zero = no_value_zero here open_here

    bound_here : value_at us k ≢ 0 → Allowed only (term_at ws k)
    bound_here d = g.within k h (λ e. d (e ∙ value_zero))

    module _ (word : value_at us k < 2 ^ 32) {vs : List ℕ} (e : vs ≡ set us (place k + 1) 0) where
      -- what the area and the other nodes hold
      rest : Entry → ℕ
      rest q = area_at us q + total ws vs q n

      rest_weight : (q : Entry) → Valid q → rest q + value_at us k * number_at q (term_at ws k) ≈ want q
      unfolding rest add_w
      rest_weight q l =
          let z : value_at vs k ≡ 0 = weight_own us vs k 0 e (omega (arith, t.shaped.words, t.shaped.fits, g.loaded.long)) in
          omega (arith, g.sums q l, total_more ws vs us q k (value_at us k) value_zero (rw z (omega arith)) (λ j d. sym (weight_other us vs k 0 e (place j + 1) (omega arith))) n h)

      -- where its weight is made zero
      weight_taken : Weighed ws vs n k only rest
      unfolding rest
      weight_taken = record {
        loaded = record {
          long = ap length e ∙ simp length-set g.loaded.long;
          kept = λ p l r d. weight_other us vs k 0 e p (d k h open_here) ∙ g.loaded.kept p l r d;
          left = λ j l q d. go j l q d (ℕ_discrete j k);
        };
        small = λ p l. rw (weight_other us vs k 0 e p (omega arith)) (g.small p l);
        within = λ j l d. bound j l d (ℕ_discrete j k);
        sums = λ q l. rw (area q l);
      }
        where
          own : value_at vs k ≡ value_at ws k
          own = weight_own us vs k 0 e (omega (arith, t.shaped.words, t.shaped.fits, g.loaded.long)) ∙ sym value_zero

          area : (q : Entry) → Valid q → area_at vs q ≡ area_at us q
          area (in_word p) l = weight_other us vs k 0 e p (omega arith)
          area (of_term x) l = refl

          go : (j : ℕ) → k ≤ j → j < n → value_at vs j ≢ value_at ws j → Dec (j ≡ k) → opaque (term_at ws j) ≡ true
          go j l q d (yes r) = absurd (d (rw r own))
          go j l q d (no r) = g.loaded.left j (omega arith) q (λ x. d (weight_other us vs k 0 e (place j + 1) (omega arith) ∙ x))

          bound : (j : ℕ) → j < n → value_at vs j ≢ value_at ws j → Dec (j ≡ k) → Allowed only (term_at ws j)
          bound j l d (yes r) = absurd (d (rw r own))
          bound j l d (no r) = g.within j l (λ x. d (weight_other us vs k 0 e (place j + 1) (omega arith) ∙ x))

-- ---- the ways out of `pass`
allowed_parts : {only : Bool} {s t : Term} → max (variable_bound s) (variable_bound t) ≤ constant_word → (only ≡ true → (plain s && plain t) ≡ true) → Allowed only s × Allowed only t
allowed_parts {only} {s} {t} b p = (record { bound = omega arith; plain_term = λ o. and_left (plain s) (plain t) (p o) }, record { bound = omega arith; plain_term = λ o. and_right (plain s) (plain t) (p o) })

module _ (us : List ℕ) (k : ℕ) {w : ℕ} (e : w ≡ value_at us k) where
  pub passed_none : w ≡ 0 → Passed us us (suc k) k
  passed_none z = record { weighed = λ ws n only want l t g. pass_left l t g (λ d. absurd (d (go ws n only want l t g (valued_at us k) refl))) }
    where
      go : (ws : List ℕ) (n : ℕ) (only : Bool) (want : Entry → ℕ) (l : k < n) (t : Formed ws n) (g : Weighed ws us n (suc k) only want) (b : Bool) → valued_at us k ≡ b → value_at us k ≡ value_at ws k
      go ws n only want l t g true o = value_kept g.loaded t k l (sym (valued_kept g.loaded t k l) ∙ o)
      go ws n only want l t g false o = sym e ∙ z ∙ sym (value_zero l t g o)

  module _ {b : Bool} (h : b ≡ valued_at us k) where
    pub passed_valued : b ≡ true → Passed us us (suc k) k
    passed_valued o = record { weighed = λ ws n only want l t g. pass_left l t g (λ d. absurd (d (value_kept g.loaded t k l (sym (valued_kept g.loaded t k l) ∙ sym h ∙ o)))) }

    module _ (o : b ≡ false) where
      open_at : valued_at us k ≡ false
      open_at = sym h ∙ o

      -- node k of the table, as `view` shows it
      view_at : {node : Node} → node ≡ view_of us k → {ws : List ℕ} {n : ℕ} {only : Bool} {want : Entry → ℕ} → k < n → Formed ws n → Weighed ws us n (suc k) only want → node ≡ view_of ws k
      view_at v l t g = v ∙ view_kept g.loaded t k l

      -- a constant holds a value
      pub passed_constant : {c : ℕ} → Constant c ≡ view_of us k → Passed us us (suc k) k
      passed_constant v = record { weighed = λ ws n only want l t g. clash (open_here l t g open_at) (constant_valued (formed_less (suc k) l t) (sym (view_at v l t g))) }

      pub passed_mask : {x y : ℕ} → Pair Mask x y ≡ view_of us k → Passed us us (suc k) k
      passed_mask v = record { weighed = λ ws n only want l t g. pass_left l t g (λ d. rw (node_built (formed_less (suc k) l t).shaped (view_at v l t g))) }

      pub passed_shift : {x y : ℕ} → Shift x y ≡ view_of us k → Passed us us (suc k) k
      passed_shift v = record { weighed = λ ws n only want l t g. pass_left l t g (λ d. rw (node_built (formed_less (suc k) l t).shaped (view_at v l t g))) }

    module _ (z : w ≢ 0) (small : w < 2 ^ 32) (o : b ≡ false) {vs : List ℕ} (s : vs ≡ set us (place k + 1) 0) where
      word_at : value_at us k < 2 ^ 32
      word_at = rw (← e) small

      module _ {ws : List ℕ} {n : ℕ} {only : Bool} {want : Entry → ℕ} (l : k < n) (t : Formed ws n) (g : Weighed ws us n (suc k) only want) where
        view : {node : Node} → node ≡ view_of us k → node ≡ view_of ws k
        view v = view_at o v l t g

        formed : Shaped ws (suc k)
        formed = (formed_less (suc k) l t).shaped

        abbrev left_over : Entry → ℕ
        left_over = rest l t g (open_at o) word_at s

        taken : Weighed ws vs n k only left_over
        taken = weight_taken l t g (open_at o) word_at s

        allowed : Allowed only (term_at ws k)
        allowed = bound_here l t g (open_at o) (λ r. z (e ∙ r))

        given : (q : Entry) → Valid q → left_over q + w * number_at q (term_at ws k) ≈ want q
        given q m = subst (λ x. left_over q + x * number_at q (term_at ws k) ≈ want q) (sym e) (rest_weight l t g (open_at o) word_at s q m)

      pub passed_variable : {x : ℕ} {xs : List ℕ} → Variable x ≡ view_of us k → xs ≡ set vs x (add_w (get_or vs x 0) w) → Passed us xs (suc k) k
      unfolding variable_bound
      passed_variable {x} {xs} v f = record { weighed = go }
        where
          go : (ws : List ℕ) (n : ℕ) (only : Bool) (want : Entry → ℕ) → k < n → Formed ws n → Weighed ws us n (suc k) only want → Weighed ws xs n k only want
          go ws n only want l t g =
              let q : term_at ws k ≡ variable x = node_built (formed l t g) (view l t g v) in
              let m : x < constant_word = (let y = rw q at (allowed l t g).bound in omega arith) in
              weighed_as
              (area_more (taken l t g) x w (λ r. w * number_at r (term_at ws k)) (omega arith) (omega (arith, t.shaped.words, t.shaped.fits, (taken l t g).loaded.long)) f
              (rw (q, variable_here x m) (omega arith))
              (λ r i c. rw (q, (single_variable x).words r i c) (omega arith))
              (λ r i. rw (q, (single_variable x).terms r i) (omega arith)))
              want
              (given l t g)

      -- a pair of nodes i and j, to which w and y are given
      module _ {i j : ℕ} (y : ℕ) {xs zs : List ℕ} (f : xs ≡ given_to (valued_at vs i) vs i w) (c : zs ≡ given_to (valued_at xs j) xs j y) where
        both : {ws : List ℕ} {n : ℕ} {only : Bool} {want : Entry → ℕ} (l : k < n) (t : Formed ws n) (g : Weighed ws us n (suc k) only want) → (i < k) × (j < k)
            → Allowed only (term_at ws i) × Allowed only (term_at ws j)
            → ((q : Entry) → left_over l t g q + w * number_at q (term_at ws k) ≈ want q → left_over l t g q + w * number_at q (term_at ws i) + y * number_at q (term_at ws j) ≈ want q)
            → Weighed ws zs n k only want
        both {ws} {n} {only} {want} l t g o b m =
            weighed_as (give_more (give_more (taken l t g) i w t (omega arith) o.0 b.0 f) j y t (omega arith) o.1 b.1 c) want (λ q r. m q (given l t g q r))

        pub passed_sum : Pair Sum i j ≡ view_of us k → y ≡ w → Passed us zs (suc k) k
        unfolding variable_bound plain
        passed_sum v d = record { weighed = go }
          where
            go : (ws : List ℕ) (n : ℕ) (only : Bool) (want : Entry → ℕ) → k < n → Formed ws n → Weighed ws us n (suc k) only want → Weighed ws zs n k only want
            go ws n only want l t g =
                let q : term_at ws k ≡ sum (term_at ws i) (term_at ws j) = node_built (formed l t g) (view l t g v) in
                both l t g (node_order (formed l t g) (view l t g v)) (allowed_parts (rw q at (allowed l t g).bound) (λ o. rw q at ((allowed l t g).plain_term o)))
                (λ r m. rw d (parts_sum (left_over l t g r) w (number_at r (term_at ws i)) (number_at r (term_at ws j)) (want r) (rw (q, number_sum (term_at ws i) (term_at ws j) r) at m)))

        pub passed_difference : Pair Difference i j ≡ view_of us k → y ≡ sub_w 0 w → Passed us zs (suc k) k
        unfolding variable_bound plain
        passed_difference v d = record { weighed = go }
          where
            go : (ws : List ℕ) (n : ℕ) (only : Bool) (want : Entry → ℕ) → k < n → Formed ws n → Weighed ws us n (suc k) only want → Weighed ws zs n k only want
            go ws n only want l t g =
                let q : term_at ws k ≡ difference (term_at ws i) (term_at ws j) = node_built (formed l t g) (view l t g v) in
                both l t g (node_order (formed l t g) (view l t g v)) (allowed_parts (rw q at (allowed l t g).bound) (λ o. rw q at ((allowed l t g).plain_term o)))
                (λ r m. rw d (parts_difference (left_over l t g r) w (number_at r (term_at ws i)) (number_at r (term_at ws j)) (want r) small (number_word r (term_at ws j)) (rw (q, number_difference (term_at ws i) (term_at ws j) r) at m)))

-- what `pass` may read and write
pub words_enough : {us : List ℕ} {m : ℕ} → Weighable us m → place m ≤ length us
words_enough y = omega (arith, y.inside, y.formed.shaped.words, y.formed.shaped.fits, y.weighed.loaded.long)

pub order_here : {us : List ℕ} {k : ℕ} → Weighable us (suc k) → {n : Node} → n ≡ view_of us k → InOrder k n
order_here {us} {k} y v = node_order (formed_less (suc k) y.inside y.formed).shaped (v ∙ view_kept y.weighed.loaded y.formed k y.inside)

-- ---- `spread`: one node more
module _ {us vs : List ℕ} {n m : ℕ} (a : Passed us vs n m) where
  pub weighable_more : Weighable us n → m ≤ n → (k : ℕ) → suc k ≡ m → Weighable vs (suc k)
  weighable_more y h k e = record {
    table = y.table;
    nodes = y.nodes;
    only = y.only;
    want = y.want;
    inside = omega (arith, y.inside);
    formed = y.formed;
    weighed = subst (λ x. Weighed y.table vs y.nodes x y.only y.want) (sym e) (a.weighed y.table y.nodes y.only y.want y.inside y.formed y.weighed);
  }

  pub passed_more : {xs : List ℕ} (k : ℕ) → m ≤ n → suc k ≡ m → Passed vs xs (suc k) k → Passed us xs n k
  passed_more k h e b = record {
    weighed = λ ws nodes only want l t g. b.weighed ws nodes only want (omega arith) t (subst (λ x. Weighed ws vs nodes x only want) (sym e) (a.weighed ws nodes only want l t g));
  }

-- ---- reckoned by the table: the form of node i once, that of node j 2^32 - 1 times
abbrev wanted : Term → Term → Entry → ℕ
wanted s t q = 0 + 1 * number_at q s + 4294967295 * number_at q t

area_last : (r z x y : ℕ) → z ≡ 0 → r + z ≈ 0 + 1 * x + 4294967295 * y → r + y ≈ add_w 0 x
unfolding add_w
area_last r z x y e h = omega arith

term_last : (z x y : ℕ) → 0 + z ≈ 0 + 1 * x + 4294967295 * y → z + y ≈ x
term_last z x y h = omega arith

pub opaque_plain : (t : Term) → opaque t ≡ true → plain t ≡ false
unfolding plain
opaque_plain (constant c) h = clash refl h
opaque_plain (variable v) h = clash refl h
opaque_plain (sum s t) h = clash refl h
opaque_plain (difference s t) h = clash refl h
opaque_plain (mask s t) h = refl
opaque_plain (shift count s) h = refl

module _ {ws us vs : List ℕ} {i j n : ℕ} (c : Comparable ws i j constant_word) (e : n ≡ suc (max i j)) (f : us ≡ given_to (valued_at ws i) ws i 1) (h : vs ≡ given_to (valued_at us j) us j 4294967295) where
  formed_both : Formed ws n
  formed_both = go (dec_lt i j)
    where
      go : Dec (i < j) → Formed ws n
      go (yes l) = formed_less n (omega arith) c.right.formed
      go (no l) = formed_less n (omega arith) c.left.formed

  abbrev plains : Bool
  plains = plain (term_at ws i) && plain (term_at ws j)

  start : Weighed ws ws n n plains (λ q. 0)
  start = record {
    loaded = record { long = refl; kept = λ p l r d. refl; left = λ k l q d. absurd (d refl) };
    small = λ p l. rw (c.cleared.word p l) (omega arith);
    within = λ k l d. absurd (d refl);
    sums = λ q l. rw (zero_area q l, total_zero ws ws q n (λ k m d. absurd (d refl)));
  }
    where
      zero_area : (q : Entry) → Valid q → area_at ws q ≡ 0
      zero_area (in_word p) l = c.cleared.word p l
      zero_area (of_term x) l = refl

  both_given : Weighed ws vs n n plains (wanted (term_at ws i) (term_at ws j))
  both_given =
      give_more
      (give_more start i 1 formed_both (omega arith) (omega arith) (record { bound = c.left.within; plain_term = λ o. and_left (plain (term_at ws i)) (plain (term_at ws j)) o }) f)
      j 4294967295 formed_both (omega arith) (omega arith) (record { bound = c.right.within; plain_term = λ o. and_right (plain (term_at ws i)) (plain (term_at ws j)) o }) h

  pub weighable_both : Weighable vs n
  weighable_both = record { table = ws; nodes = n; only = plains; want = wanted (term_at ws i) (term_at ws j); inside = omega arith; formed = formed_both; weighed = both_given }

  pub spread_both : {xs : List ℕ} → Passed vs xs n 0 → Spread ws xs n (term_at ws i) (term_at ws j)
  spread_both {xs} a = record {
    area = λ p l. sub_only (get_or xs p 0) (add_w 0 (form_at p (term_at ws i))) (form_at p (term_at ws j)) (spent.small p l) (form_word p (term_at ws j)) (area_last (get_or xs p 0) (total ws xs (in_word p) n) (form_at p (term_at ws i)) (form_at p (term_at ws j)) (no_words p) (spent.sums (in_word p) l));
    formed = formed_both;
    loaded = spent.loaded;
    sums = λ x o. term_last (total ws xs (of_term x) n) (number_at (of_term x) (term_at ws i)) (number_at (of_term x) (term_at ws j)) (spent.sums (of_term x) o);
    none = λ o. record {
      long = spent.loaded.long;
      kept = λ p l r d. unweighed o p l r ((p - table_base) / 3) refl (ℕ_discrete p (place ((p - table_base) / 3) + 1)) (dec_lt ((p - table_base) / 3) n);
      left = λ k l q d. absurd (omega arith);
    };
  }
    where
      spent : Weighed ws xs n 0 plains (wanted (term_at ws i) (term_at ws j))
      spent = a.weighed ws n plains (wanted (term_at ws i) (term_at ws j)) (omega arith) formed_both both_given

      -- a masked or shifted term has no word of the area
      no_words : (p : ℕ) → total ws xs (in_word p) n ≡ 0
      no_words p = total_zero ws xs (in_word p) n (λ k l d. opaque_form p (term_at ws k) (spent.loaded.left k (omega arith) l d))

      -- and a plain term is none
      no_weight : plains ≡ true → (k : ℕ) → k < n → Dec (value_at xs k ≡ value_at ws k) → value_at xs k ≡ value_at ws k
      no_weight o k l (yes d) = d
      no_weight o k l (no d) = clash (opaque_plain (term_at ws k) (spent.loaded.left k (omega arith) l d)) ((spent.within k l d).plain_term o)

      unweighed : plains ≡ true → (p : ℕ) → area_words ≤ p → p < hint_base → (k : ℕ) → (p - table_base) / 3 ≡ k → Dec (p ≡ place k + 1) → Dec (k < n) → get_or xs p 0 ≡ get_or ws p 0
      unweighed o p l i k e (yes d) (yes m) = rw d (no_weight o k m (ℕ_discrete (value_at xs k) (value_at ws k)))
      unweighed o p l i k e (yes d) (no m) = spent.loaded.kept p l i (λ x q v r. omega arith)
      unweighed o p l i k e (no d) m = spent.loaded.kept p l i (λ x q v r. d (let z : x ≡ k = omega arith in rw (← z) r))
