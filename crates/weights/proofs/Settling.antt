-- Laws of weights that are left: nodes with the same masked or shifted term are brought together. Assumes nothing.
use mathlib.Core.Path.{◌≡◌, refl, sym, ap, subst, ◌∙◌}
use mathlib.Core.Logic.{◌≢◌}
use mathlib.Core.Bool.{Bool, true, false, not, ◌&&◌, and-false}
use mathlib.Core.List.{List}
use Prim.Native.Nat.{ℕ, suc, ◌+◌, ◌-◌, ◌*◌, ◌%◌, ◌^◌, ◌≤◌, ◌<◌}
use native.Mathlib.Omega.{arith}
use native.Mathlib.Decide.{ℕ_discrete}
use lib.ListN.{length, get_or, set, length-set}
use lib.Dec.{eqb}
use denote.Param.Members.{Mut}
use denote.Ref.{Bor}
use Rattle.std.specs.Prelude.{Option, Some, None, MatchOption, IsTrue}
use Rattle.std.specs.Fn.{CalledAt}
use Rattle.std.specs.Iterator.Runs.{Run, SomeRun, ItemsCountDown, CallKeepsClosure, NoItemPasses, EndsAtFirstPassing}
use Rattle.std.proofs.iter.runs.Sources.{nat_range_steps_back, range_runs_back}
use Rattle.std.proofs.lemmas.Option.{MatchOption-at_some}
use Rattle.std.proofs.lemmas.Iterator.Adapters.{option_map_id}
use borrow.Author.Tests.{eqb-true, eqb-false}
use Rattle.model.specs.Word.{add_w}
use Rattle.model.specs.Term.{Term, closed, eq_term}
use Rattle.model.specs.Linear.{coefficient_of}
use Rattle.model.proofs.Terms.{same_term, term_same, and_left, and_right}
use Rattle.model.proofs.Words.{◌≈◌}
use Rattle.workspace.specs.Layout.{Same, area_words, hint_base, most_table_nodes}
use Rattle.workspace.proofs.Frames.{same_refl, same_trans}
use Rattle.nodes.specs.Table.{place, value_at, valued_at, term_at, plain, Formed, Shaped}
use Rattle.nodes.proofs.Table.{formed_less, marks_here}
use Rattle.nodes.proofs.Facts.{no_value_zero, valued_at_lem}
use Rattle.forms.specs.Entries.{opaque, of_term, Unlike}
use Rattle.weights.specs.Weights.{total, weighs_at, Loaded, Partner, Settleable, Unsettled, Settled, Spread, Reckoned}
use Rattle.forms.proofs.Forms.{clash, opaque_coefficient, plain_coefficient, coefficient_word}
use Rattle.weights.proofs.Weights.{total_same, total_zero, total_more, valued_kept, value_kept, term_kept, shaped_kept, loaded_set, weight_other, weight_own, opaque_plain}

-- ---- whether a node has a weight
module _ (us : List ℕ) (k : ℕ) where
  weighs_parts : (a b : Bool) → (not a && not b) ≡ true → (a ≡ false) × (b ≡ false)
  weighs_parts true b h = clash refl h
  weighs_parts false true h = clash refl h
  weighs_parts false false h = (refl, refl)

  weighs_not : (a b : Bool) → (not a && not b) ≡ false → a ≡ false → b ≡ true
  weighs_not true b h e = clash e refl
  weighs_not false true h e = refl
  weighs_not false false h e = clash h refl

  pub weight_here : weighs_at us k ≡ true → (value_at us k ≢ 0) × (valued_at us k ≡ false)
  weight_here h = let p = weighs_parts (eqb (value_at us k) 0) (valued_at us k) h in (eqb-false (value_at us k) 0 p.0, p.1)

module _ {ws us : List ℕ} {n : ℕ} (t : Formed ws n) (g : Loaded ws us n 0) (k : ℕ) (h : k < n) where
  here : Formed ws (suc k)
  here = formed_less (suc k) h t

  pub weightless : weighs_at us k ≡ false → value_at us k ≡ value_at ws k
  weightless o = go (valued_at us k) refl (eqb (value_at us k) 0) refl
    where
      go : (b : Bool) → valued_at us k ≡ b → (a : Bool) → eqb (value_at us k) 0 ≡ a → value_at us k ≡ value_at ws k
      go true e a f = value_kept g t k h (sym (valued_kept g t k h) ∙ e)
      go false e true f = eqb-true (value_at us k) 0 f ∙ sym (no_value_zero here (sym (valued_kept g t k h) ∙ e))
      go false e false f = clash e (weighs_not us k (eqb (value_at us k) 0) (valued_at us k) o f)

  module _ (o : weighs_at us k ≡ true) where
    pub weighted_open : valued_at ws k ≡ false
    weighted_open = sym (valued_kept g t k h) ∙ (weight_here us k o).1

    pub weighted_zero : value_at ws k ≡ 0
    weighted_zero = no_value_zero here weighted_open

    pub weighted_opaque : opaque (term_at ws k) ≡ true
    weighted_opaque = g.left k (omega arith) h (λ e. (weight_here us k o).0 (e ∙ weighted_zero))

-- a masked or shifted term holds no value
opaque_open : {ws : List ℕ} {k : ℕ} → Formed ws (suc k) → opaque (term_at ws k) ≡ true → valued_at ws k ≡ false
opaque_open {ws} {k} t o = valued_at_lem (marks_here t.shaped) ∙ rw (opaque_plain (term_at ws k) o) (and-false (closed (term_at ws k)))

-- ---- the last node, where it has no weight any more
loaded_less : {ws us vs : List ℕ} {k : ℕ} → Loaded ws us (suc k) 0 → value_at vs k ≡ value_at ws k → ((p : ℕ) → p < hint_base → p ≢ place k + 1 → get_or vs p 0 ≡ get_or us p 0) → length vs ≡ length us → k ≤ most_table_nodes → Loaded ws vs k 0
loaded_less {ws} {us} {vs} {k} g e other l f = record {
  long = l ∙ g.long;
  kept = λ p m r d. go p m r d (ℕ_discrete p (place k + 1));
  left = λ j m q d. g.left j m (omega arith) (λ r. d (other (place j + 1) (omega arith) (omega arith) ∙ r));
}
  where
    go : (p : ℕ) → area_words ≤ p → p < hint_base → ((j : ℕ) → j < k → valued_at ws j ≡ false → p ≢ place j + 1) → Dec (p ≡ place k + 1) → get_or vs p 0 ≡ get_or ws p 0
    go p m r d (yes q) = rw q e
    go p m r d (no q) = other p r q ∙ g.kept p m r (λ j i o x. d j (omega arith) o x)

last_none : (a v u f : ℕ) → v ≡ u → a ≈ a + (v - u) * f
last_none a v u f e = let z : v - u ≡ 0 = omega arith in rw z (omega arith)

last_handed : (a b v u f : ℕ) → u ≡ 0 → a ≈ b + v * f → a ≈ b + (v - u) * f
last_handed a b v u f e h = let z : v - 0 ≡ v = omega arith in rw (e, z) h

last_alone : (a v u f : ℕ) → a ≡ 0 → u ≡ 0 → f ≡ 1 → v < 2 ^ 32 → v ≢ 0 → (a + (v - u) * f) % 2 ^ 32 ≢ 0
last_alone a v u f e d c s n = rw (e, d, c) (λ h. n (omega arith))

-- ---- `searched`: the search down from k calls a closure f, which tells of a node whether it has a weight and the term of node k
down : {k : ℕ} (p : Run nat_range_steps_back) → p.from ≡ record { start = 0; end = k } → ItemsCountDown p 0 k
down p e = rw e at (range_runs_back p p.seen)

pub partner_searched : {F : Type 0} {g : Mut F (Bor ℕ × Unit {0}) Bool} {f : F} {us : List ℕ} {k : ℕ} (r : Option ℕ) → CallKeepsClosure g f
    → ((j : ℕ) → CalledAt g f j true f → eq_term (term_at us j) (term_at us k) ≡ true)
    → ((j : ℕ) → CalledAt g f j false f → weighs_at us j ≡ true → eq_term (term_at us j) (term_at us k) ≡ false)
    → SomeRun nat_range_steps_back (record { start = 0; end = k }) (λ p. MatchOption r (IsTrue p.whole × NoItemPasses p g f) (EndsAtFirstPassing p g f))
    → Partner us us k r
partner_searched {us = us} {k} None keeps found other s = record {
  kept = same_refl 0 hint_base us;
  found = λ j l. other j (MatchOption-at_some _ _ j (sym (option_map_id _) ∙ (down s.0 s.1).3 (k - 1 - j) (omega (arith, (down s.0 s.1).1 s.2.0)) ∙ ap Some (omega arith)) (s.2.1 keeps (k - 1 - j)));
}
partner_searched {us = us} (Some j) keeps found other s = record {
  kept = same_refl 0 hint_base us;
  found = (omega (arith, MatchOption-at_some _ _ j s.2.2 ((down s.0 s.1).2 s.2.0)), found j (s.2.3 keeps).0);
}

-- ---- the ways out of `hand_over`
pub settled_none : {us : List ℕ} {k : ℕ} {b : Bool} → b ≡ weighs_at us k → b ≡ false → Settled us us (suc k) k true
unfolding total
settled_none {us} {k} e h = record {
  area = same_refl 0 area_words us;
  loaded = λ ws t g. loaded_less g (weightless t g k (omega arith) (sym e ∙ h)) (λ p r d. refl) refl (omega (arith, t.shaped.fits));
  agree = λ ws t g r x o. last_none (total ws us (of_term x) k) (value_at us k) (value_at ws k) (coefficient_of x (term_at ws k)) (weightless t g k (omega arith) (sym e ∙ h));
  differ = λ ws t g r. clash r refl;
}

-- us are the words before, ms those once a partner is looked for, vs those once the weight is made zero
module _ {us ms vs : List ℕ} {k w : ℕ} {r : Option ℕ} {b : Bool} (d : b ≡ weighs_at us k) (h : b ≡ true) (e : w ≡ value_at us k) (small : w < 2 ^ 32) (p : Partner us ms k r) (i : length ms ≡ length us) (s : vs ≡ set ms (place k + 1) 0) where
  weighs_here : weighs_at us k ≡ true
  weighs_here = sym d ∙ h

  other_word : (q : ℕ) → q < hint_base → q ≢ place k + 1 → get_or vs q 0 ≡ get_or us q 0
  other_word q l m = weight_other ms vs k 0 s q m ∙ p.kept.word q (omega arith) l

  zero_area : Same 0 area_words us vs
  zero_area = record { word = λ q l m. other_word q (omega arith) (omega arith) }

  module _ {ws : List ℕ} (t : Formed ws (suc k)) (g : Loaded ws us (suc k) 0) where
    zero_loaded : Loaded ws vs k 0
    zero_loaded =
        loaded_less g
        (weight_own ms vs k 0 s (omega (arith, t.shaped.words, t.shaped.fits, g.long)) ∙ sym (weighted_zero t g k (omega arith) weighs_here))
        other_word
        (ap length s ∙ simp length-set i)
        (omega (arith, t.shaped.fits))

  pub settled_alone : r ≡ None → Settled us vs (suc k) k false
  unfolding total
  settled_alone a = record {
    area = zero_area;
    loaded = λ ws t g. zero_loaded t g;
    agree = λ ws t g r. clash refl r;
    differ = λ ws t g r. record {
      term = term_at ws k;
      is_opaque = weighted_opaque t g k (omega arith) weighs_here;
      left = left_of ws t g;
    };
  }
    where
      apart : (ws : List ℕ) (t : Formed ws (suc k)) (g : Loaded ws us (suc k) 0) (m : ℕ) → m < k → value_at us m ≢ value_at ws m → (a : Bool) → weighs_at us m ≡ a → (c : Bool) → eq_term (term_at ws k) (term_at ws m) ≡ c → coefficient_of (term_at ws k) (term_at ws m) ≡ 0
      apart ws t g m l n false q c r = absurd (n (weightless t g m (omega arith) q))
      apart ws t g m l n true q false r = rw (opaque_coefficient (term_at ws k) (term_at ws m) (weighted_opaque t g m (omega arith) q), r)
      apart ws t g m l n true q true r =
          let x : term_at us m ≡ term_at us k = term_kept g t m (omega arith) ∙ sym (same_term (term_at ws k) (term_at ws m) r) ∙ sym (term_kept g t k (omega arith)) in
          clash ((rw a at p.found) m l q) (rw x (term_same (term_at us k)))

      itself : (ws : List ℕ) → opaque (term_at ws k) ≡ true → coefficient_of (term_at ws k) (term_at ws k) ≡ 1
      itself ws o = rw (opaque_coefficient (term_at ws k) (term_at ws k) o, term_same (term_at ws k))

      left_of : (ws : List ℕ) (t : Formed ws (suc k)) (g : Loaded ws us (suc k) 0) → total ws us (of_term (term_at ws k)) (suc k) % 2 ^ 32 ≢ 0
      left_of ws t g =
          last_alone (total ws us (of_term (term_at ws k)) k) (value_at us k) (value_at ws k) (coefficient_of (term_at ws k) (term_at ws k))
          (total_zero ws us (of_term (term_at ws k)) k (λ m l n. apart ws t g m l n (weighs_at us m) refl (eq_term (term_at ws k) (term_at ws m)) refl))
          (weighted_zero t g k (omega arith) weighs_here)
          (itself ws (weighted_opaque t g k (omega arith) weighs_here))
          (rw (← e) small)
          (weight_here us k weighs_here).0

  module _ {j : ℕ} (n : r ≡ Some j) {x : ℕ} {xs : List ℕ} (f : x ≡ value_at vs j) (c : xs ≡ set vs (place j + 1) (add_w x w)) where
    twin : (j < k) × (eq_term (term_at us j) (term_at us k) ≡ true)
    twin = rw n at p.found

    before : j < k
    before = twin.0

    same : {ws : List ℕ} (t : Formed ws (suc k)) (g : Loaded ws us (suc k) 0) → term_at ws j ≡ term_at ws k
    same t g = sym (term_kept g t j (omega (arith, before))) ∙ same_term (term_at us j) (term_at us k) twin.1 ∙ term_kept g t k (omega arith)

    pair_opaque : {ws : List ℕ} (t : Formed ws (suc k)) (g : Loaded ws us (suc k) 0) → opaque (term_at ws j) ≡ true
    pair_opaque t g = rw (same t g) (weighted_opaque t g k (omega arith) weighs_here)

    pair_open : {ws : List ℕ} (t : Formed ws (suc k)) (g : Loaded ws us (suc k) 0) → valued_at ws j ≡ false
    pair_open {ws} t g = opaque_open (formed_less (suc j) (omega (arith, before)) t) (pair_opaque t g)

    pub settled_paired : Settled us xs (suc k) k true
    unfolding total
    settled_paired = record {
      area = same_trans zero_area (record { word = λ q l m. weight_other vs xs j (add_w x w) c q (omega arith) });
      loaded = λ ws t g. loaded_set (zero_loaded t g) j (add_w x w) before (pair_open t g) (λ l. pair_opaque t g) c;
      agree = λ ws t g r y o. last_handed (total ws xs (of_term y) k) (total ws us (of_term y) k) (value_at us k) (value_at ws k) (coefficient_of y (term_at ws k)) (weighted_zero t g k (omega arith) weighs_here) (handed ws t g y);
      differ = λ ws t g r. clash r refl;
    }
      where
        handed : (ws : List ℕ) (t : Formed ws (suc k)) (g : Loaded ws us (suc k) 0) (y : Term) → total ws xs (of_term y) k ≈ total ws us (of_term y) k + value_at us k * coefficient_of y (term_at ws k)
        handed ws t g y =
            rw (← total_same ws us vs (of_term y) k (λ m l. other_word (place m + 1) (omega (arith, t.shaped.fits)) (omega arith)), ← same t g, ← e)
            (total_more ws vs xs (of_term y) j w (no_value_zero (formed_less (suc j) (omega (arith, before)) t) (pair_open t g)) (weight_own vs xs j (add_w x w) c (omega (arith, before, t.shaped.words, t.shaped.fits, (zero_loaded t g).long)) ∙ ap (λ z. add_w z w) f) (λ m d. weight_other vs xs j (add_w x w) c (place m + 1) (omega arith)) k before)

pub settle_shape : {us : List ℕ} {n : ℕ} → Settleable us n → Shaped us n
settle_shape y = shaped_kept y.loaded y.formed

-- ---- `settle`: one node more
module _ {us vs : List ℕ} {n m : ℕ} {r : Bool} (a : Settled us vs n m r) where
  pub settleable_more : Settleable us n → m ≤ n → (k : ℕ) → suc k ≡ m → Settleable vs (suc k)
  settleable_more y h k e = record {
    table = y.table;
    formed = formed_less (suc k) (omega arith) y.formed;
    loaded = subst (λ x. Loaded y.table vs x 0) (sym e) (a.loaded y.table y.formed y.loaded);
  }

  pub settled_more : {xs : List ℕ} {q : Bool} (k : ℕ) → m ≤ n → suc k ≡ m → Settled vs xs (suc k) k q → Settled us xs n k (r && q)
  settled_more {xs} {q} k h e b = record {
    area = same_trans a.area b.area;
    loaded = λ ws t g. b.loaded ws (less ws t) (middle ws t g);
    agree = λ ws t g o x p. b.agree ws (less ws t) (middle ws t g) (second_true r q o) x p ∙ subst (λ y. total ws vs (of_term x) y ≈ total ws us (of_term x) n) (sym e) (a.agree ws t g (first_true r q o) x p);
    differ = λ ws t g o. go ws t g r refl q refl o;
  }
    where
      first_true : (c d : Bool) → (c && d) ≡ true → c ≡ true
      first_true true d o = refl
      first_true false d o = o

      second_true : (c d : Bool) → (c && d) ≡ true → d ≡ true
      second_true true d o = o
      second_true false d o = clash refl o

      less : (ws : List ℕ) → Formed ws n → Formed ws (suc k)
      less ws t = formed_less (suc k) (omega arith) t

      middle : (ws : List ℕ) → Formed ws n → Loaded ws us n 0 → Loaded ws vs (suc k) 0
      middle ws t g = subst (λ x. Loaded ws vs x 0) (sym e) (a.loaded ws t g)

      later : (ws : List ℕ) (t : Formed ws n) (g : Loaded ws us n 0) → r ≡ true → Unsettled ws vs (suc k) → Unsettled ws us n
      later ws t g c u = record {
        term = u.term;
        is_opaque = u.is_opaque;
        left = λ z. u.left (subst (λ y. total ws vs (of_term u.term) y ≈ total ws us (of_term u.term) n) (sym e) (a.agree ws t g c u.term u.is_opaque) ∙ z);
      }

      go : (ws : List ℕ) (t : Formed ws n) (g : Loaded ws us n 0) (c : Bool) → r ≡ c → (d : Bool) → q ≡ d → (r && q) ≡ false → Unsettled ws us n
      go ws t g false c d f o = a.differ ws t g c
      go ws t g true c false f o = later ws t g c (b.differ ws (less ws t) (middle ws t g) f)
      go ws t g true c true f o = clash o (rw (c, f))

-- the nodes from m on are settled, and then those before them
settled_both : {us ms vs : List ℕ} {n m : ℕ} {q : Bool} → m ≤ n → Settled us ms n m true → Settled ms vs m 0 q → Settled us vs n 0 q
settled_both {us} {ms} {vs} {n} {m} {q} h a b = record {
  area = same_trans a.area b.area;
  loaded = λ ws t g. b.loaded ws (formed_less m h t) (a.loaded ws t g);
  agree = λ ws t g o x p. b.agree ws (formed_less m h t) (a.loaded ws t g) o x p ∙ a.agree ws t g refl x p;
  differ = λ ws t g o. earlier ws t g (b.differ ws (formed_less m h t) (a.loaded ws t g) o);
}
  where
    earlier : (ws : List ℕ) (t : Formed ws n) (g : Loaded ws us n 0) → Unsettled ws ms m → Unsettled ws us n
    earlier ws t g u = record { term = u.term; is_opaque = u.is_opaque; left = λ z. u.left (a.agree ws t g refl u.term u.is_opaque ∙ z) }

pub settleable_rest : {us ms : List ℕ} {n m l : ℕ} → m ≤ n → l ≡ m → Settled us ms n m true → Settleable us n → Settleable ms l
settleable_rest {ms = ms} {m = m} h e a y = subst (Settleable ms) (sym e) (record { table = y.table; formed = formed_less m h y.formed; loaded = a.loaded y.table y.formed y.loaded })

pub settled_rest : {us ms vs : List ℕ} {n m l : ℕ} {q : Bool} → m ≤ n → l ≡ m → Settled us ms n m true → Settled ms vs l 0 q → Settled us vs n 0 q
settled_rest {ms = ms} {vs} {q = q} h e a b = settled_both h a (subst (λ x. Settled ms vs x 0 q) e b)

-- ---- both forms reckoned by the table
pub both_plain : (s t : Term) {p q : Bool} → p ≡ plain s → q ≡ plain t → (p && q) ≡ true → (plain s ≡ true) × (plain t ≡ true)
both_plain s t {p} {q} d e h = (sym d ∙ and_left p q h, sym e ∙ and_right p q h)

module _ {ws us : List ℕ} {n : ℕ} {s t : Term} (a : Spread ws us n s t) where
  pub reckoned_plain : (plain s ≡ true) × (plain t ≡ true) → Reckoned ws us s t true
  reckoned_plain h = record {
    area = a.area;
    above = record { word = λ p l q. (a.none (rw (h.0, h.1))).kept p l q (λ k m. absurd (omega arith)) };
    long = a.loaded.long;
    agree = λ r x o. plain_coefficient x s o h.0 ∙ sym (plain_coefficient x t o h.1);
    differ = λ r. clash r refl;
  }

  pub spread_settleable : Settleable us n
  spread_settleable = record { table = ws; formed = a.formed; loaded = a.loaded }

  unlike_left : (z x y : ℕ) → z + y ≈ x → z % 2 ^ 32 ≢ 0 → x ≢ y
  unlike_left z x y h n e = n (omega arith)

  alike_none : (z x y : ℕ) → z + y ≈ x → 0 % 2 ^ 32 ≡ z % 2 ^ 32 → x < 2 ^ 32 → y < 2 ^ 32 → x ≡ y
  alike_none z x y h e p q = omega arith

  pub reckoned_settled : {vs : List ℕ} {r : Bool} → Settled us vs n 0 r → Reckoned ws vs s t r
  unfolding total
  reckoned_settled {vs} {r} b = record {
    area = λ p l. b.area.word p (omega arith) l ∙ a.area p l;
    above = record { word = λ p l q. after.kept p l q (λ k m. absurd (omega arith)) };
    long = after.long;
    agree = λ q x o. alike_none (total ws us (of_term x) n) (coefficient_of x s) (coefficient_of x t) (a.sums x o) (b.agree ws a.formed a.loaded q x o) (coefficient_word x s) (coefficient_word x t);
    differ = λ q. unlike (b.differ ws a.formed a.loaded q);
  }
    where
      after : Loaded ws vs 0 0
      after = b.loaded ws a.formed a.loaded

      unlike : Unsettled ws us n → Unlike s t
      unlike u = record { term = u.term; differs = unlike_left (total ws us (of_term u.term) n) (coefficient_of u.term s) (coefficient_of u.term t) (a.sums u.term u.is_opaque) u.left }
