-- Linear forms by the word: of sums and differences, and the difference of two forms. Assumes nothing.
use mathlib.Core.Path.{◌≡◌, refl, sym, ap, ap₂, ◌∙◌}
use mathlib.Core.Option.{some}
use mathlib.Core.Logic.{◌≢◌}
use mathlib.Core.Bool.{Bool, true, false, not, ◌&&◌}
use mathlib.Core.List.{List}
use Prim.Native.Nat.{ℕ, zero, suc, ◌+◌, ◌%◌, ◌^◌, ◌≤◌, ◌<◌}
use native.Mathlib.Omega.{arith}
use native.Mathlib.Decide.{dec_lt, ℕ_discrete}
use lib.ListN.{get_or}
use lib.Dec.{eqb, ltb}
use borrow.Author.Tests.{lt-ltb, eq-eqb, ne_eqb, eqb-true, eqb-false}
use Rattle.model.specs.Word.{add_w, sub_w}
use Rattle.model.specs.Term.{Term, constant, variable, sum, difference, mask, shift, eval, closed, eq_term}
use Rattle.model.specs.Linear.{constant_of, coefficient_of, one_if, variable_bound, same_coefficients, indeterminates, only_if, form_difference}
use Rattle.model.proofs.Terms.{and_left, and_right}
use Rattle.model.proofs.Indeterminates.{same_everywhere, same_in_list}
use Rattle.model.proofs.Words.{◌≈◌, same_word, add_cong, add_cancel, add_plain, sub_plain, add_below, sub_below}
use Rattle.workspace.specs.Layout.{constant_word, area_words}
use Rattle.nodes.specs.Table.{plain}
use Rattle.forms.specs.Area.{form_if, form_at, signed, all_zero}
use Rattle.forms.specs.Entries.{opaque, Entry, in_word, of_term, number_at, Unlike}

pub clash : {A : Type 0} {b : Bool} → b ≡ false → b ≡ true → A
clash h e = absurd (let z : ◌≡◌ {A = ℕ} 0 1 = cc in omega arith)

-- ---- words modulo 2^32
-- the word that gives w when x is added to it is their difference
pub sub_only : (r w x : ℕ) → r < 2 ^ 32 → x < 2 ^ 32 → r + x ≈ w → r ≡ sub_w w x
sub_only r w x h k e = same_word (add_cancel r (sub_w w x) x (e ∙ sym (sub_plain w x k))) h (sub_below w x)

sum_taken : (r s w a b c : ℕ) → r + b ≈ s → s + a ≈ w → c ≈ a + b → r + c ≈ w
sum_taken r s w a b c p q e = omega arith

difference_taken : (r s w a b c : ℕ) → r ≈ s + b → s + a ≈ w → c + b ≈ a → r + c ≈ w
difference_taken r s w a b c p q e =
    add_cong r (s + b) c c p refl ∙ ap (λ x. x % 2 ^ 32) (omega arith) ∙ add_cong s s (c + b) a refl e ∙ q

module _ (w a b : ℕ) (h : a < 2 ^ 32) (k : b < 2 ^ 32) where
  signed_sum : (n : Bool) → signed n (signed n w a) b ≡ signed n w (add_w a b)
  unfolding add_w
  signed_sum false = omega arith
  signed_sum true =
      sub_only _ w (add_w a b) (sub_below _ b) (add_below a b)
      (sum_taken (sub_w (sub_w w a) b) (sub_w w a) w a b (add_w a b) (sub_plain _ b k) (sub_plain w a h) (add_plain a b))

  signed_difference : (n : Bool) → signed (not n) (signed n w a) b ≡ signed n w (sub_w a b)
  unfolding add_w sub_w
  signed_difference false = omega arith
  signed_difference true =
      sub_only _ w (sub_w a b) (add_below _ b) (sub_below a b)
      (difference_taken (add_w (sub_w w a) b) (sub_w w a) w a b (sub_w a b) (add_plain _ b) (sub_plain w a h) (sub_plain a b k))

pub signed_zero : (n : Bool) (w : ℕ) → w < 2 ^ 32 → w ≡ signed n w 0
unfolding add_w sub_w
signed_zero false w h = omega arith
signed_zero true w h = omega arith

-- from a word that is zero, one word added and another subtracted
added_zero : (a b : ℕ) → a < 2 ^ 32 → sub_w (add_w 0 a) b ≡ sub_w a b
unfolding add_w sub_w
added_zero a b h = omega arith

-- one word less another is zero where they are the same and nowhere else
difference_zero : (a b : ℕ) → a < 2 ^ 32 → b < 2 ^ 32 → eqb (sub_w (add_w 0 a) b) 0 ≡ eqb a b
unfolding add_w sub_w
difference_zero a b h k = go (ℕ_discrete a b)
  where
    go : Dec (a ≡ b) → eqb (sub_w (add_w 0 a) b) 0 ≡ eqb a b
    go (yes e) = rw (eq-eqb (sub_w (add_w 0 a) b) 0 (omega arith), eq-eqb a b e)
    go (no e) = rw (ne_eqb (sub_w (add_w 0 a) b) 0 (omega arith), ne_eqb a b e)

-- ---- a term's form is of words
constant_word_lem : (t : Term) → constant_of t < 2 ^ 32
unfolding constant_of add_w sub_w
constant_word_lem (constant c) = omega arith
constant_word_lem (variable v) = omega arith
constant_word_lem (sum s t) = omega arith
constant_word_lem (difference s t) = omega arith
constant_word_lem (mask s t) = omega arith
constant_word_lem (shift count s) = omega arith

one_word : (b : Bool) → one_if b < 2 ^ 32
one_word true = omega arith
one_word false = omega arith

pub coefficient_word : (x t : Term) → coefficient_of x t < 2 ^ 32
unfolding coefficient_of add_w sub_w
coefficient_word x (constant c) = omega arith
coefficient_word x (variable w) = one_word (eq_term x (variable w))
coefficient_word x (sum s t) = omega arith
coefficient_word x (difference s t) = omega arith
coefficient_word x (mask s t) = one_word (eq_term x (mask s t))
coefficient_word x (shift count s) = one_word (eq_term x (shift count s))

pub form_word : (k : ℕ) (t : Term) → form_at k t < 2 ^ 32
unfolding form_at
form_word k t = go (ltb k constant_word)
  where
    go : (b : Bool) → form_if b k t < 2 ^ 32
    go true = coefficient_word (variable k) t
    go false = constant_word_lem t

-- ---- the words of a form
pub form_coefficient : (k : ℕ) (t : Term) → k < constant_word → form_at k t ≡ coefficient_of (variable k) t
unfolding form_at
form_coefficient k t h = rw (lt-ltb k constant_word h, form_at)

pub form_constant : (t : Term) → form_at constant_word t ≡ constant_of t
unfolding form_at
form_constant t = refl

-- of a constant all are zero but the constant's
pub constant_here : (c : ℕ) → c < 2 ^ 32 → form_at constant_word (constant c) ≡ c
unfolding form_at constant_of
constant_here c h = omega arith

pub constant_else : (k c : ℕ) → k < area_words → k ≢ constant_word → form_at k (constant c) ≡ 0
unfolding form_at coefficient_of
constant_else k c h n = rw (lt-ltb k constant_word (omega arith), form_at)

-- of a variable all are zero but its own, which is one
pub variable_here : (v : ℕ) → v < constant_word → form_at v (variable v) ≡ 1
unfolding form_at coefficient_of eq_term
variable_here v h = rw (lt-ltb v constant_word h, form_at, eq-eqb v v refl)

pub variable_else : (k v : ℕ) → k ≢ v → form_at k (variable v) ≡ 0
unfolding form_at constant_of coefficient_of eq_term
variable_else k v n = go (ltb k constant_word)
  where
    go : (b : Bool) → form_if b k (variable v) ≡ 0
    go true = rw (ne_eqb k v n)
    go false = refl

module _ (k : ℕ) (p q : Term) where
  pub form_of_sum : form_at k (sum p q) ≡ add_w (form_at k p) (form_at k q)
  unfolding form_at constant_of coefficient_of
  form_of_sum = go (ltb k constant_word)
    where
      go : (b : Bool) → form_if b k (sum p q) ≡ add_w (form_if b k p) (form_if b k q)
      go true = refl
      go false = refl

  pub form_of_difference : form_at k (difference p q) ≡ sub_w (form_at k p) (form_at k q)
  unfolding form_at constant_of coefficient_of
  form_of_difference = go (ltb k constant_word)
    where
      go : (b : Bool) → form_if b k (difference p q) ≡ sub_w (form_if b k p) (form_if b k q)
      go true = refl
      go false = refl

  -- a word after both parts, where the word after the first is u
  module _ (n : Bool) (w : ℕ) {u v : ℕ} (e : u ≡ signed n w (form_at k p)) where
    pub word_sum : v ≡ signed n u (form_at k q) → v ≡ signed n w (form_at k (sum p q))
    word_sum f = rw (f, e, form_of_sum) (signed_sum w (form_at k p) (form_at k q) (form_word k p) (form_word k q) n)

    pub word_difference : v ≡ signed (not n) u (form_at k q) → v ≡ signed n w (form_at k (difference p q))
    word_difference f = rw (f, e, form_of_difference) (signed_difference w (form_at k p) (form_at k q) (form_word k p) (form_word k q) n)

-- ---- terms that hold a value: it is the constant, and all else is zero
pub plain_constant : (t : Term) → plain t ≡ true → constant_of t ≡ eval (λ v. 0) t
unfolding constant_of eval plain
plain_constant (constant c) h = refl
plain_constant (variable v) h = refl
plain_constant (sum s t) h = rw (plain_constant s (and_left (plain s) (plain t) h), plain_constant t (and_right (plain s) (plain t) h))
plain_constant (difference s t) h = rw (plain_constant s (and_left (plain s) (plain t) h), plain_constant t (and_right (plain s) (plain t) h))
plain_constant (mask s t) h = clash refl h
plain_constant (shift count s) h = clash refl h

closed_bound : (t : Term) → closed t ≡ true → variable_bound t ≡ 0
unfolding closed variable_bound
closed_bound (constant c) h = refl
closed_bound (variable v) h = clash refl h
closed_bound (sum s t) h = rw (closed_bound s (and_left (closed s) (closed t) h), closed_bound t (and_right (closed s) (closed t) h))
closed_bound (difference s t) h = rw (closed_bound s (and_left (closed s) (closed t) h), closed_bound t (and_right (closed s) (closed t) h))
closed_bound (mask s t) h = rw (closed_bound s (and_left (closed s) (closed t) h), closed_bound t (and_right (closed s) (closed t) h))
closed_bound (shift count s) h = closed_bound s h

-- coefficients of variables beyond the bound are zero
pub coefficient_beyond : (v : ℕ) (t : Term) → variable_bound t ≤ v → coefficient_of (variable v) t ≡ 0
unfolding coefficient_of variable_bound eq_term add_w sub_w
coefficient_beyond v (constant c) h = refl
coefficient_beyond v (variable w) h = rw (ne_eqb v w (omega arith))
coefficient_beyond v (sum s t) h = rw (coefficient_beyond v s (omega arith), coefficient_beyond v t (omega arith))
coefficient_beyond v (difference s t) h = rw (coefficient_beyond v s (omega arith), coefficient_beyond v t (omega arith))
coefficient_beyond v (mask s t) h = refl
coefficient_beyond v (shift count s) h = refl

-- ---- masked and shifted terms
apart_variable : (x : Term) (w : ℕ) → opaque x ≡ true → eq_term x (variable w) ≡ false
unfolding eq_term
apart_variable (constant c) w h = clash refl h
apart_variable (variable v) w h = clash refl h
apart_variable (sum s t) w h = clash refl h
apart_variable (difference s t) w h = clash refl h
apart_variable (mask s t) w h = refl
apart_variable (shift count s) w h = refl

-- has none in a term without them
pub plain_coefficient : (x t : Term) → opaque x ≡ true → plain t ≡ true → coefficient_of x t ≡ 0
unfolding coefficient_of plain add_w sub_w
plain_coefficient x (constant c) o h = refl
plain_coefficient x (variable w) o h = rw (apart_variable x w o)
plain_coefficient x (sum s t) o h = rw (plain_coefficient x s o (and_left (plain s) (plain t) h), plain_coefficient x t o (and_right (plain s) (plain t) h))
plain_coefficient x (difference s t) o h = rw (plain_coefficient x s o (and_left (plain s) (plain t) h), plain_coefficient x t o (and_right (plain s) (plain t) h))
plain_coefficient x (mask s t) o h = clash refl h
plain_coefficient x (shift count s) o h = clash refl h

-- one in itself, none in another
pub opaque_coefficient : (x t : Term) → opaque t ≡ true → coefficient_of x t ≡ one_if (eq_term x t)
unfolding coefficient_of
opaque_coefficient x (constant c) h = clash refl h
opaque_coefficient x (variable v) h = clash refl h
opaque_coefficient x (sum s t) h = clash refl h
opaque_coefficient x (difference s t) h = clash refl h
opaque_coefficient x (mask s t) h = refl
opaque_coefficient x (shift count s) h = refl

-- and no word
opaque_words : (b : Bool) (p : ℕ) (t : Term) → opaque t ≡ true → form_if b p t ≡ 0
unfolding coefficient_of constant_of eq_term
opaque_words b p (constant c) h = clash refl h
opaque_words b p (variable v) h = clash refl h
opaque_words b p (sum s t) h = clash refl h
opaque_words b p (difference s t) h = clash refl h
opaque_words true p (mask s t) h = refl
opaque_words false p (mask s t) h = refl
opaque_words true p (shift count s) h = refl
opaque_words false p (shift count s) h = refl

pub opaque_form : (p : ℕ) (t : Term) → opaque t ≡ true → form_at p t ≡ 0
unfolding form_at
opaque_form p t h = opaque_words (ltb p constant_word) p t h

-- what is neither a variable nor masked or shifted has no coefficient
none_in : (x t : Term) → ((v : ℕ) → eq_term x (variable v) ≡ false) → ((s u : Term) → eq_term x (mask s u) ≡ false) → ((count : ℕ) (s : Term) → eq_term x (shift count s) ≡ false) → coefficient_of x t ≡ 0
unfolding coefficient_of add_w sub_w
none_in x (constant c) a b d = refl
none_in x (variable w) a b d = rw (a w)
none_in x (sum s t) a b d = rw (none_in x s a b d, none_in x t a b d)
none_in x (difference s t) a b d = rw (none_in x s a b d, none_in x t a b d)
none_in x (mask s t) a b d = rw (b s t)
none_in x (shift count s) a b d = rw (d count s)

-- ---- numbers of a form, of words and of masked and shifted terms
pub number_word : (e : Entry) (t : Term) → number_at e t < 2 ^ 32
number_word (in_word p) t = form_word p t
number_word (of_term x) t = coefficient_word x t

module _ (s t : Term) where
  pub number_sum : (e : Entry) → number_at e (sum s t) ≡ add_w (number_at e s) (number_at e t)
  unfolding coefficient_of
  number_sum (in_word p) = form_of_sum p s t
  number_sum (of_term x) = refl

  pub number_difference : (e : Entry) → number_at e (difference s t) ≡ sub_w (number_at e s) (number_at e t)
  unfolding coefficient_of
  number_difference (in_word p) = form_of_difference p s t
  number_difference (of_term x) = refl

-- where all is in one word p of the area
pub record Single (p : ℕ) (t : Term) : Type 0 where
  pub words : (k : ℕ) → k < area_words → k ≢ p → form_at k t ≡ 0
  pub terms : (x : Term) → opaque x ≡ true → coefficient_of x t ≡ 0

pub single_variable : (v : ℕ) → Single v (variable v)
unfolding coefficient_of
single_variable v = record { words = λ k l n. variable_else k v n; terms = λ x o. rw (apart_variable x v o) }

module _ (t : Term) (c : closed t ≡ true) (h : plain t ≡ true) where
  pub single_valued : Single constant_word t
  single_valued = record {
    words = λ k l n. form_coefficient k t (omega arith) ∙ coefficient_beyond k t (omega (arith, closed_bound t c));
    terms = λ x o. plain_coefficient x t o h;
  }

  pub valued_here : form_at constant_word t ≡ eval (λ v. 0) t
  valued_here = form_constant t ∙ plain_constant t h

-- ---- the same form
pub all_zero_lem : (n : ℕ) (ws : List ℕ) → all_zero n ws ≡ true → (k : ℕ) → k < n → get_or ws k 0 ≡ 0
unfolding all_zero
all_zero_lem zero ws h k l = absurd (omega arith)
all_zero_lem (suc n) ws h k l = go (all_zero_lem n ws (and_left (all_zero n ws) _ h) k) (dec_lt k n)
  where
    go : (k < n → get_or ws k 0 ≡ 0) → Dec (k < n) → get_or ws k 0 ≡ 0
    go before (yes m) = before m
    go before (no m) = let e : k ≡ n = omega arith in rw e (eqb-true (get_or ws n 0) 0 (and_right (all_zero n ws) _ h))

record Nonzero (n : ℕ) (ws : List ℕ) : Type 0 where
  at : ℕ
  below : at < n
  word : get_or ws at 0 ≢ 0

some_nonzero : (n : ℕ) (ws : List ℕ) → all_zero n ws ≡ false → Nonzero n ws
unfolding all_zero
some_nonzero zero ws h = clash h refl
some_nonzero (suc n) ws h = go (some_nonzero n ws) (all_zero n ws) refl (eqb (get_or ws n 0) 0) refl
  where
    go : (all_zero n ws ≡ false → Nonzero n ws) → (b : Bool) → all_zero n ws ≡ b → (d : Bool) → eqb (get_or ws n 0) 0 ≡ d → Nonzero (suc n) ws
    go before true e true f = clash h (rw (e, f))
    go before true e false f = record { at = n; below = omega arith; word = eqb-false (get_or ws n 0) 0 f }
    go before false e d f = let r : Nonzero n ws = before e in record { at = r.at; below = omega (arith, r.below); word = r.word }

false_unless : (b : Bool) → (b ≡ true → ⊥) → b ≡ false
false_unless true h = absurd (h refl)
false_unless false h = refl

module _ (s t : Term) where
  pub unlike_false : Unlike s t → same_coefficients (indeterminates s t) s t ≡ false
  unlike_false u = false_unless _ (λ h. u.differs (same_everywhere s t h u.term))

  alike_true : ((x : Term) → coefficient_of x s ≡ coefficient_of x t) → same_coefficients (indeterminates s t) s t ≡ true
  alike_true h = same_in_list s t h (indeterminates s t)

pub difference_refl : (t : Term) → form_difference t t ≡ some 0
unfolding form_difference only_if sub_w
difference_refl t = rw (alike_true t t (λ x. refl)) (ap some (omega (arith, constant_word_lem t)))

-- the words that hold the first term's form less the second's
module _ (s t : Term) (ws : List ℕ) (words : (k : ℕ) → k < area_words → get_or ws k 0 ≡ sub_w (add_w 0 (form_at k s)) (form_at k t)) where
  word_zero : (k : ℕ) → k < area_words → eqb (get_or ws k 0) 0 ≡ eqb (form_at k s) (form_at k t)
  word_zero k h = rw (words k h) (difference_zero (form_at k s) (form_at k t) (form_word k s) (form_word k t))

  module _ (n : ℕ) (few : n ≤ constant_word) (hs : variable_bound s ≤ n) (ht : variable_bound t ≤ n) where
    -- are zero from the bound on
    pub zero_beyond : (k : ℕ) → n ≤ k → k < constant_word → get_or ws k 0 ≡ 0
    unfolding add_w sub_w
    zero_beyond k l h =
        rw (words k (omega arith), form_coefficient k s h, form_coefficient k t h, coefficient_beyond k s (omega arith), coefficient_beyond k t (omega arith))

    variable_alike : all_zero n ws ≡ true → (v : ℕ) → coefficient_of (variable v) s ≡ coefficient_of (variable v) t
    variable_alike z v = go (dec_lt v n)
      where
        go : Dec (v < n) → coefficient_of (variable v) s ≡ coefficient_of (variable v) t
        go (yes l) =
            sym (form_coefficient v s (omega arith))
            ∙ eqb-true (form_at v s) (form_at v t) (sym (word_zero v (omega arith)) ∙ eq-eqb (get_or ws v 0) 0 (all_zero_lem n ws z v l))
            ∙ form_coefficient v t (omega arith)
        go (no l) = coefficient_beyond v s (omega arith) ∙ sym (coefficient_beyond v t (omega arith))

    variable_unlike : Nonzero n ws → Unlike s t
    variable_unlike z = record {
      term = variable z.at;
      differs = λ e. z.word (eqb-true (get_or ws z.at 0) 0 (word_zero z.at (omega (arith, z.below)) ∙ rw (form_coefficient z.at s (omega (arith, z.below)), form_coefficient z.at t (omega (arith, z.below))) (eq-eqb _ _ e)));
    }

    every_alike : all_zero n ws ≡ true → ((x : Term) → opaque x ≡ true → coefficient_of x s ≡ coefficient_of x t) → (x : Term) → coefficient_of x s ≡ coefficient_of x t
    unfolding eq_term
    every_alike z a (constant c) = none_in (constant c) s (λ v. refl) (λ p q. refl) (λ m p. refl) ∙ sym (none_in (constant c) t (λ v. refl) (λ p q. refl) (λ m p. refl))
    every_alike z a (variable v) = variable_alike z v
    every_alike z a (sum p q) = none_in (sum p q) s (λ v. refl) (λ p q. refl) (λ m p. refl) ∙ sym (none_in (sum p q) t (λ v. refl) (λ p q. refl) (λ m p. refl))
    every_alike z a (difference p q) = none_in (difference p q) s (λ v. refl) (λ p q. refl) (λ m p. refl) ∙ sym (none_in (difference p q) t (λ v. refl) (λ p q. refl) (λ m p. refl))
    every_alike z a (mask p q) = a (mask p q) refl
    every_alike z a (shift m p) = a (shift m p) refl

    -- where the coefficients' words are zero and masked and shifted terms agree, the forms differ by the constant's word
    pub zeros_difference : (r : Bool) → (r ≡ true → (x : Term) → opaque x ≡ true → coefficient_of x s ≡ coefficient_of x t) → (r ≡ false → Unlike s t)
        → only_if (all_zero n ws && r) (get_or ws constant_word 0) ≡ form_difference s t
    unfolding form_difference
    zeros_difference r a d =
        rw (words constant_word (omega arith), form_constant s, form_constant t)
        (ap₂ only_if (go (all_zero n ws) refl r refl) (added_zero (constant_of s) (constant_of t) (constant_word_lem s)))
      where
        go : (z : Bool) → all_zero n ws ≡ z → (b : Bool) → r ≡ b → (z && b) ≡ same_coefficients (indeterminates s t) s t
        go true e true f = sym (alike_true s t (every_alike e (a f)))
        go true e false f = sym (unlike_false s t (d f))
        go false e b f = sym (unlike_false s t (variable_unlike (some_nonzero n ws e)))
