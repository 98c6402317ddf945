-- Laws of the comparison: one for each way out. Assumes nothing.
use mathlib.Core.Path.{◌≡◌, refl, sym, ◌∙◌}
use mathlib.Core.Bool.{Bool, true, false, ◌&&◌}
use mathlib.Core.Logic.{◌≢◌}
use mathlib.Core.Option.{some}
use mathlib.Core.List.{List}
use Prim.Native.Nat.{ℕ, ◌≤◌, ◌<◌}
use native.Mathlib.Omega.{arith}
use native.Mathlib.Decide.{dec_lt, ℕ_discrete}
use lib.ListN.{length, get_or, set}
use lib.Seq.{get_or-set_same, get_or-set_other}
use lib.Dec.{eqb}
use borrow.Author.Tests.{eqb-true}
use Rattle.model.specs.Term.{Term}
use Rattle.model.specs.Linear.{only_if, form_difference}
use Rattle.workspace.specs.Layout.{Same, constant_word, area_words, hint_base}
use Rattle.nodes.specs.Table.{high, marks_at, term_at, plain}
use Rattle.workspace.proofs.Frames.{same_within}
use Rattle.nodes.proofs.Table.{same_terms}
use Rattle.forms.specs.Area.{Tree, Accumulated, Comparable, Emptied}
use Rattle.weights.specs.Weights.{Reckoned}
use Rattle.forms.proofs.Forms.{zeros_difference, zero_beyond, difference_refl, plain_coefficient, clash}
use Rattle.forms.proofs.Laws.{term_kept, tree_kept, above_both}

-- the same node stands for both
pub same_twins : {ws : List ℕ} {i j n : ℕ} {r : Bool} → Comparable ws i j n → r ≡ eqb (high (marks_at ws i)) (high (marks_at ws j)) → r ≡ true → some 0 ≡ form_difference (term_at ws i) (term_at ws j)
same_twins {ws} {i} {j} c e h =
    let t : term_at ws i ≡ term_at ws j = same_terms c.left.formed.shaped c.right.formed.shaped (eqb-true (high (marks_at ws i)) (high (marks_at ws j)) (sym e ∙ h)) in
    rw (t, difference_refl (term_at ws j))

-- the terms walked as trees
module _ {ws : List ℕ} {i j : ℕ} (c : Comparable ws i j constant_word) (h : (plain (term_at ws i) ≡ true) × (plain (term_at ws j) ≡ true)) where
  pub second_tree : {us : List ℕ} {n : Bool} {t : Term} → Accumulated ws us n t → Tree us j constant_word
  second_tree a = tree_kept a (record { formed = c.right.formed; within = c.right.within; plain_term = h.1 })

  pub reckoned_trees : {us vs : List ℕ} → Accumulated ws us false (term_at ws i) → Accumulated us vs true (term_at us j) → Reckoned ws vs (term_at ws i) (term_at ws j) true
  reckoned_trees a b = record {
    area = λ p l. b.area p l ∙ rw (a.area p l, c.cleared.word p l, term_kept a c.right.formed);
    above = same_within area_words hint_base (omega arith) (omega (arith, c.left.formed.shaped.words)) (above_both a b);
    long = b.long ∙ a.long;
    agree = λ r x o. plain_coefficient x (term_at ws i) o h.0 ∙ sym (plain_coefficient x (term_at ws j) o h.1);
    differ = λ r. clash r refl;
  }

-- the coefficients taken out of the area, and then the constant
module _ {ws vs xs : List ℕ} {i j n : ℕ} {r o : Bool} (c : Comparable ws i j n) (a : Reckoned ws vs (term_at ws i) (term_at ws j) o) (e : Emptied vs xs n r) where
  enough : hint_base ≤ length vs
  enough = omega (arith, a.long, c.left.formed.shaped.words)

  constant_kept : get_or xs constant_word 0 ≡ get_or vs constant_word 0
  constant_kept = e.above.word constant_word c.few (omega (arith, enough))

  pub answered : {d : ℕ} → d ≡ get_or xs constant_word 0 → only_if (r && o) d ≡ form_difference (term_at ws i) (term_at ws j)
  answered f = rw (f, constant_kept, e.is) (zeros_difference (term_at ws i) (term_at ws j) vs a.area n c.few c.left.within c.right.within o a.agree a.differ)

  pub restored : {x : ℕ} → x ≡ 0 → Same 0 hint_base ws (set xs constant_word x)
  restored f = rw f (record { word = λ p z l. go p l (ℕ_discrete p constant_word) (dec_lt p n) (dec_lt p constant_word) })
    where
      emptied : (p : ℕ) → p < hint_base → p ≢ constant_word → Dec (p < n) → Dec (p < constant_word) → get_or xs p 0 ≡ get_or ws p 0
      emptied p l h (yes m) d = e.zeros p m ∙ sym (c.cleared.word p (omega (arith, c.few)))
      emptied p l h (no m) (yes d) = e.above.word p (omega arith) (omega (arith, enough)) ∙ zero_beyond (term_at ws i) (term_at ws j) vs a.area n c.few c.left.within c.right.within p (omega arith) d ∙ sym (c.cleared.word p (omega arith))
      emptied p l h (no m) (no d) = e.above.word p (omega arith) (omega (arith, enough)) ∙ a.above.word p (omega arith) l

      go : (p : ℕ) → p < hint_base → Dec (p ≡ constant_word) → Dec (p < n) → Dec (p < constant_word) → get_or (set xs constant_word 0) p 0 ≡ get_or ws p 0
      go p l (yes h) m d = rw h (get_or-set_same xs constant_word 0 0 (omega (arith, enough, e.long)) ∙ sym (c.cleared.word constant_word (omega arith)))
      go p l (no h) m d = get_or-set_other xs constant_word p 0 0 h ∙ emptied p l h m d
