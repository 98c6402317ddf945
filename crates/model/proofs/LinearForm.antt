-- Terms whose linear forms have the same coefficients differ as the constants do (rules 12 and 28). Assumes nothing.
use Prim.Native.Nat.{ℕ, ◌≤◌, ◌<◌, ◌^◌, ◌+◌, ◌%◌, ◌*◌, max}
use mathlib.Core.Bool.{Bool, true, false}
use mathlib.Core.List.{List, [], ◌∷◌}
use mathlib.Core.Path.{◌≡◌, refl, ap, ◌∙◌, sym}
use native.Mathlib.Omega.{arith}
use borrow.Author.Tests.{eqb-true}
use Rattle.model.specs.Linear.{constant_of, one_if, coefficient_of, variable_bound, variables_below, opaque_terms, indeterminates, same_coefficients, only_if, form_difference}
use Rattle.model.specs.Result.{found, misfit}
use Rattle.model.specs.declared.Misfit.{Misfit}
use Rattle.model.specs.Term.{Term, eval, eq_term, constant, variable, sum, difference, mask, shift}
use Rattle.model.specs.Word.{add_w, sub_w}
use Rattle.model.proofs.Gives.{Gives, gives, gives_map, stops}
use Rattle.model.proofs.Indeterminates.{stands, Standing, variable_among, complete}
use Rattle.model.proofs.Lists.{every_left, every_right, every_head}
use Rattle.model.proofs.Terms.{and_right, eval_word, WordEnv, and_left, same_term}
use Rattle.model.proofs.Words.{sub_plain, ◌≈◌, add_plain, add_below, mul_cong, add_cong, add_cancel, sub_below}

constant_word_lem : (t : Term) → constant_of t < 2 ^ 32
unfolding constant_of
constant_word_lem (constant c) = omega arith
constant_word_lem (variable v) = omega arith
constant_word_lem (sum s t) = add_below _ _
constant_word_lem (difference s t) = sub_below _ _
constant_word_lem (mask s t) = omega arith
constant_word_lem (shift count s) = omega arith

one_word : (b : Bool) → one_if b < 2 ^ 32
one_word true = omega arith
one_word false = omega arith

coefficient_word : (x t : Term) → coefficient_of x t < 2 ^ 32
unfolding coefficient_of
coefficient_word x (constant c) = omega arith
coefficient_word x (variable w) = one_word (eq_term x (variable w))
coefficient_word x (sum s t) = add_below _ _
coefficient_word x (difference s t) = sub_below _ _
coefficient_word x (mask s t) = one_word (eq_term x (mask s t))
coefficient_word x (shift count s) = one_word (eq_term x (shift count s))

regroup : (a b p q e : ℕ) → (a + b) + (p + q) * e ≈ (a + p * e) + (b + q * e)
regroup a b p q e = ap (λ x. x % 2 ^ 32) (omega arith)

abbrev when : Bool → ℕ → ℕ
when true n = n
when false n = 0

abbrev unless : Bool → ℕ → ℕ
unless true n = 0
unless false n = n

module _ (env : ℕ → ℕ) where
  -- the constant, and coefficient times value for each indeterminate of a list, counted where it stands last
  form : List Term → Term → ℕ
  form [] t = constant_of t
  form (x ∷ xs) t = form xs t + coefficient_of x t * unless (stands x xs) (eval env x)

  form_constant : (xs : List Term) (c : ℕ) → form xs (constant c) ≡ c % 2 ^ 32
  unfolding form constant_of coefficient_of
  form_constant [] c = refl
  form_constant (x ∷ xs) c = omega (arith, form_constant xs c)

  form_of_sum : (xs : List Term) (s t : Term) → form xs (sum s t) ≈ form xs s + form xs t
  unfolding form constant_of coefficient_of
  form_of_sum [] s t = add_plain (constant_of s) (constant_of t)
  form_of_sum (x ∷ xs) s t =
      let p = coefficient_of x s in
      let q = coefficient_of x t in
      let e = unless (stands x xs) (eval env x) in
      add_cong _ _ _ _ (form_of_sum xs s t) (mul_cong (add_w p q) (p + q) e (add_plain p q)) ∙ regroup (form xs s) (form xs t) p q e

  form_of_difference : (xs : List Term) (s t : Term) → form xs (difference s t) + form xs t ≈ form xs s
  unfolding form constant_of coefficient_of
  form_of_difference [] s t = sub_plain (constant_of s) (constant_of t) (constant_word_lem t)
  form_of_difference (x ∷ xs) s t =
      let p = coefficient_of x s in
      let q = coefficient_of x t in
      let e = unless (stands x xs) (eval env x) in
      sym (regroup (form xs (difference s t)) (form xs t) (sub_w p q) q e)
      ∙ add_cong _ _ _ _ (form_of_difference xs s t) (mul_cong (sub_w p q + q) p e (sub_plain p q (coefficient_word x t)))

  -- the form of an indeterminate is its value, if it stands in the list
  form_one : (y : Term) → constant_of y ≡ 0 → ((x : Term) → coefficient_of x y ≡ one_if (eq_term x y)) → (xs : List Term)
      → form xs y ≡ when (stands y xs) (eval env y)
  unfolding form stands
  form_one y c k [] = c
  form_one y c k (x ∷ xs) = go (eq_term x y) refl (stands y xs) refl (form_one y c k xs)
    where
      go : (b : Bool) → eq_term x y ≡ b → (o : Bool) → stands y xs ≡ o → form xs y ≡ when (stands y xs) (eval env y)
          → form (x ∷ xs) y ≡ when (stands y (x ∷ xs)) (eval env y)
      go true e true f h = rw (k x, e, same_term x y e, f) (omega (arith, rw f at h))
      go true e false f h = rw (k x, e, same_term x y e, f) (omega (arith, rw f at h))
      go false e o f h = rw (k x, e) (omega (arith, h))

  module _ (words : WordEnv env) (n : ℕ) (xs : List Term) (numbered : Standing xs (variables_below n)) where
    known : (y : Term) → constant_of y ≡ 0 → ((x : Term) → coefficient_of x y ≡ one_if (eq_term x y)) → stands y xs ≡ true → eval env y ≈ form xs y
    known y c k e = ap (λ x. x % 2 ^ 32) (sym (form_one y c k xs ∙ rw e))

    -- the value is congruent to the form
    eval_form : (t : Term) → variable_bound t ≤ n → Standing xs (opaque_terms t) → eval env t ≈ form xs t
    unfolding eval variable_bound opaque_terms constant_of coefficient_of
    eval_form (constant c) h o = omega (arith, form_constant xs c)
    eval_form (variable v) h o = known (variable v) refl (λ x. refl) (variable_among n v (omega arith) numbered)
    eval_form (sum s t) h o =
        add_plain (eval env s) (eval env t)
        ∙ add_cong _ _ _ _ (eval_form s (omega arith) (every_left (opaque_terms s) _ o)) (eval_form t (omega arith) (every_right (opaque_terms s) _ o))
        ∙ sym (form_of_sum xs s t)
    eval_form (difference s t) h o =
        let a = eval env s in
        let b = eval env t in
        add_cancel (sub_w a b) (form xs (difference s t)) (form xs t) (
        add_cong (sub_w a b) (sub_w a b) _ _ refl (sym (eval_form t (omega arith) (every_right (opaque_terms s) _ o)))
        ∙ sub_plain a b (eval_word env t words)
        ∙ eval_form s (omega arith) (every_left (opaque_terms s) _ o)
        ∙ sym (form_of_difference xs s t))
    eval_form (mask s t) h o = known (mask s t) refl (λ x. refl) (every_head o)
    eval_form (shift count s) h o = known (shift count s) refl (λ x. refl) (every_head o)

  -- with the same coefficients, two forms differ as their constants do
  same_coefficients_lem : (xs : List Term) (s t : Term) → same_coefficients xs s t ≡ true → form xs s + constant_of t ≡ form xs t + constant_of s
  unfolding form same_coefficients
  same_coefficients_lem [] s t h = omega arith
  same_coefficients_lem (x ∷ xs) s t h =
      rw (eqb-true (coefficient_of x s) (coefficient_of x t) (search and_left)) (omega (arith, same_coefficients_lem xs s t (search and_right)))

-- with the same coefficients, two values differ as the constants do
values_differ : (env : ℕ → ℕ) → WordEnv env → (s t : Term) → same_coefficients (indeterminates s t) s t ≡ true
    → eval env s + constant_of t ≈ eval env t + constant_of s
values_differ env words s t h =
    let all = complete s t in
    let value_of_lem = eval_form env words (max (variable_bound s) (variable_bound t)) (indeterminates s t) all.numbered in
    add_cong _ _ _ _ (value_of_lem s (omega arith) all.first) refl
    ∙ ap (λ x. x % 2 ^ 32) (same_coefficients_lem env (indeterminates s t) s t h)
    ∙ sym (add_cong _ _ _ _ (value_of_lem t (omega arith) all.second) refl)

only_where : (b : Bool) (d : ℕ) → Gives {E = Misfit} (λ x. (b ≡ true) × (x ≡ d)) (found (only_if b d) misfit)
unfolding found only_if
only_where true d = gives (refl, refl)
only_where false d = stops

-- where the forms have a difference, the one value is the other plus it
pub difference_sound : (env : ℕ → ℕ) → WordEnv env → (s t : Term)
    → Gives {E = Misfit} (λ d. (eval env s ≡ add_w (eval env t) d) × (d < 2 ^ 32)) (found (form_difference s t) misfit)
unfolding form_difference add_w sub_w
difference_sound env words s t =
    gives_map
    (λ d h. let apart = values_differ env words s t h.0 in (omega (arith, h.1, eval_word env s words, constant_word_lem s, constant_word_lem t), omega (arith, h.1)))
    (only_where _ _)
