-- Laws of the walks along a term, one for each way out of a function. Assumes nothing.
use mathlib.Core.Path.{◌≡◌, refl, sym, ap, ◌∙◌}
use mathlib.Core.Logic.{◌≢◌}
use mathlib.Core.Bool.{Bool, true, false, ◌&&◌}
use mathlib.Core.List.{List}
use Prim.Native.Nat.{ℕ, zero, suc, ◌%◌, ◌^◌, ◌<◌}
use native.Mathlib.Omega.{arith}
use lib.Dec.{eqb}
use lib.ListN.{get_or, replicate}
use borrow.Author.Tests.{eq-eqb, eqb-true, ne_eqb}
use Rattle.std.specs.Prelude.{Option, None}
use Rattle.model.specs.Word.{shift_w}
use Rattle.model.specs.Term.{Term, eval, eq_term}
use Rattle.model.proofs.Terms.{same_term, term_same as same-refl-term}
use Rattle.nodes.specs.declared.Node.{Node}
use Rattle.nodes.specs.declared.Node.TheVariants.{Constant, Variable, Pair, Shift}
use Rattle.nodes.specs.declared.Operation.{Operation}
use Rattle.nodes.specs.declared.Operation.TheVariants.{Sum, Difference, Mask}
use Rattle.nodes.specs.Table.{low, high, parts_at, value_at, marks_at, node_of_tag, view_of, build, operation_of, term_at, pair_value, facts_of, InOrder, Shaped, Formed}
use Rattle.nodes.proofs.Table.{marks_here, node_order, node_built, same_terms}
use Rattle.nodes.proofs.Facts.{pair_eval}
use Rattle.term_walks.specs.Reckoned.{Right}

-- ---- the value of a term by those of its parts
module _ {ws : List ℕ} {i : ℕ} (f : Formed ws (suc i)) where
  pub reduced_constant : {c : ℕ} → Constant c ≡ view_of ws i → c < 2 ^ 32 → c ≡ eval (λ v. 0) (term_at ws i)
  unfolding eval
  reduced_constant e h = rw (node_built f.shaped e) (omega arith)

  pub reduced_variable : {v : ℕ} → Variable v ≡ view_of ws i → 0 ≡ eval (λ v. 0) (term_at ws i)
  unfolding eval
  reduced_variable e = rw (node_built f.shaped e)

  pub reduced_pair : {o : Operation} {l r a b x : ℕ} → Pair o l r ≡ view_of ws i → a ≡ eval (λ v. 0) (term_at ws l) → b ≡ eval (λ v. 0) (term_at ws r) → x ≡ pair_value o a b → x ≡ eval (λ v. 0) (term_at ws i)
  reduced_pair {o} {l} {r} e p q d = d ∙ rw (p, q, node_built f.shaped e) (sym (pair_eval o (term_at ws l) (term_at ws r)))

  pub reduced_shift : {count part a x : ℕ} → Shift count part ≡ view_of ws i → a ≡ eval (λ v. 0) (term_at ws part) → x ≡ shift_w count a → x ≡ eval (λ v. 0) (term_at ws i)
  unfolding eval
  reduced_shift e p d = d ∙ rw (p, node_built f.shaped e)

-- ---- what an evaluation keeps: at first nothing
pub nothing_kept : (ws : List ℕ) (places : ℕ) → Right ws (replicate places None)
nothing_kept ws places = record { is = λ node. rw (none places node) tt }
  where
    none : (n k : ℕ) → ◌≡◌ {A = Option ℕ} (get_or (replicate n None) k None) None
    none zero k = refl
    none (suc n) zero = refl
    none (suc n) (suc k) = none n k

-- ---- the same term
-- the same node stands for both
pub same_twin : {ws : List ℕ} {i j : ℕ} → Shaped ws (suc i) → Shaped ws (suc j) → high (marks_at ws i) ≡ high (marks_at ws j) → true ≡ eq_term (term_at ws i) (term_at ws j)
same_twin {ws} {i} {j} f g e = rw (same_terms f g e) (sym (same-refl-term (term_at ws j)))

-- terms with different facts
pub same_facts : {ws : List ℕ} {i j : ℕ} → Shaped ws (suc i) → Shaped ws (suc j) → low (marks_at ws i) ≢ low (marks_at ws j) → false ≡ eq_term (term_at ws i) (term_at ws j)
same_facts {ws} {i} {j} f g n = go (eq_term (term_at ws i) (term_at ws j)) refl
  where
    go : (b : Bool) → eq_term (term_at ws i) (term_at ws j) ≡ b → false ≡ b
    go true e = absurd (n ((marks_here f).facts ∙ ap facts_of (same_term (term_at ws i) (term_at ws j) e) ∙ sym (marks_here g).facts))
    go false e = refl

-- a node of the same tag as another, with parts and a value of its own
abbrev like : Node → (parts value : ℕ) → Node
like (Constant c) p v = Constant v
like (Variable w) p v = Variable p
like (Pair o l r) p v = Pair o (low p) (high p)
like (Shift count part) p v = Shift (high p) (low p)

like_is : (t p v q w : ℕ) → node_of_tag t q w ≡ like (node_of_tag t p v) q w
like_is zero p v q w = refl
like_is (suc zero) p v q w = refl
like_is (suc (suc zero)) p v q w = refl
like_is (suc (suc (suc zero))) p v q w = refl
like_is (suc (suc (suc (suc zero)))) p v q w = refl
like_is (suc (suc (suc (suc (suc t))))) p v q w = refl

pairs_equal : (o : Operation) (a b c d : Term) → (eq_term a c && eq_term b d) ≡ eq_term (operation_of o a b) (operation_of o c d)
unfolding eq_term
pairs_equal Sum a b c d = refl
pairs_equal Difference a b c d = refl
pairs_equal Mask a b c d = refl

-- nodes that are alike
module _ {ws : List ℕ} {i j : ℕ} (f : Shaped ws (suc i)) (g : Shaped ws (suc j)) {alike : Bool} (s : alike ≡ eqb (low (marks_at ws i)) (low (marks_at ws j))) (h : alike ≡ true) where
  same_tag : marks_at ws i % 8 ≡ marks_at ws j % 8
  same_tag = let l : low (marks_at ws i) ≡ low (marks_at ws j) = eqb-true (low (marks_at ws i)) (low (marks_at ws j)) (sym s ∙ h) in omega arith

  -- node i seen as n: node j is one like it
  module _ {n : Node} (e : n ≡ view_of ws i) where
    other : like n (parts_at ws j) (value_at ws j) ≡ view_of ws j
    unfolding view_of
    other =
        ap (λ o. like o (parts_at ws j) (value_at ws j)) (e ∙ rw same_tag)
        ∙ sym (like_is (marks_at ws j % 8) (parts_at ws i) (value_at ws i) (parts_at ws j) (value_at ws j))

    -- the parts of both come before them
    pub parts_before : InOrder i n × InOrder j (like n (parts_at ws j) (value_at ws j))
    parts_before = (node_order f e, node_order g other)

    terms_equal : eq_term (build (term_at ws) n) (build (term_at ws) (like n (parts_at ws j) (value_at ws j))) ≡ eq_term (term_at ws i) (term_at ws j)
    terms_equal = sym (rw (node_built f e, node_built g other))

  pub constants_equal : {a b : ℕ} → Constant a ≡ view_of ws i → b ≡ value_at ws j → eqb a b ≡ eq_term (term_at ws i) (term_at ws j)
  unfolding eq_term
  constants_equal e q = rw q (terms_equal e)

  pub variables_equal : {a b : ℕ} → Variable a ≡ view_of ws i → b ≡ parts_at ws j → eqb a b ≡ eq_term (term_at ws i) (term_at ws j)
  unfolding eq_term
  variables_equal e q = rw q (terms_equal e)

  module _ {o : Operation} {l r x : ℕ} (e : Pair o l r ≡ view_of ws i) (p : x ≡ low (parts_at ws j)) {b : Bool} (q : b ≡ eq_term (term_at ws l) (term_at ws x)) where
    pairs_are : (b && eq_term (term_at ws r) (term_at ws (high (parts_at ws j)))) ≡ eq_term (term_at ws i) (term_at ws j)
    pairs_are = rw (q, p) (pairs_equal o (term_at ws l) (term_at ws r) (term_at ws (low (parts_at ws j))) (term_at ws (high (parts_at ws j))) ∙ terms_equal e)

    pub first_differs : b ≡ false → b ≡ eq_term (term_at ws i) (term_at ws j)
    first_differs d = d ∙ rw d at pairs_are

    pub second_same : {y : ℕ} {c : Bool} → b ≡ true → y ≡ high (parts_at ws j) → c ≡ eq_term (term_at ws r) (term_at ws y) → c ≡ eq_term (term_at ws i) (term_at ws j)
    second_same d m a = a ∙ rw m (rw d at pairs_are)

  module _ {m part n : ℕ} (e : Shift m part ≡ view_of ws i) (p : n ≡ high (parts_at ws j)) where
    pub counts_differ : m ≢ n → eqb m n ≡ eq_term (term_at ws i) (term_at ws j)
    unfolding eq_term
    counts_differ d = ne_eqb m n d ∙ rw (ne_eqb m (high (parts_at ws j)) (λ q. d (q ∙ sym p))) at (terms_equal e)

    pub shifted_same : {x : ℕ} {c : Bool} → m ≡ n → x ≡ low (parts_at ws j) → c ≡ eq_term (term_at ws part) (term_at ws x) → c ≡ eq_term (term_at ws i) (term_at ws j)
    unfolding eq_term
    shifted_same d q a = a ∙ rw q (rw (eq-eqb m (high (parts_at ws j)) (d ∙ p)) at (terms_equal e))
