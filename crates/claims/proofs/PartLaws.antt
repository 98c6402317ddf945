-- Laws of claims and terms taken apart: one for each way out. Assumes nothing.
use mathlib.Core.Path.{◌≡◌, refl, sym, ◌∙◌}
use mathlib.Core.Bool.{Bool, true, false, ◌&&◌}
use mathlib.Core.List.{List}
use Prim.Native.Nat.{ℕ, suc}
use lib.Dec.{eqb}
use denote.Enum.Bare.{sameb}
use denote.Enum.Declared.{tag_of as variant}
use Rattle.std.specs.Prelude.{IsErr}
use Rattle.model.specs.Result.{Result, Err, Ok, misfit, ◌>>=◌, check}
use Rattle.model.specs.Term.{Term, constant, eq_term}
use Rattle.model.specs.Atom.{tag_of, eq_atom}
use Rattle.model.specs.Rule.{pair_of, sum_of, difference_of, mask_of, shift_of, equal_pairs, congruent}
use Rattle.model.specs.declared.Comparison.{Comparison}
use Rattle.model.specs.declared.Comparison.TheVariants.{Equal, Unequal, Less, AtMost}
use Rattle.model.specs.declared.Misfit.{Misfit}
use Rattle.model.specs.contracts.Comparison.{the_type as comparison-type}
use Rattle.nodes.specs.Table.{operation_tag, operation_of, view_of, build, term_at, Formed}
use Rattle.nodes.specs.declared.Node.{Node}
use Rattle.nodes.specs.declared.Node.TheVariants.{Constant, Variable, Pair, Shift}
use Rattle.nodes.specs.declared.Operation.{Operation}
use Rattle.nodes.specs.declared.Operation.TheVariants.{Sum, Difference, Mask}
use Rattle.nodes.specs.contracts.Operation.{the_type as operation-type}
use Rattle.nodes.proofs.Table.{node_built}
use Rattle.model_laws.proofs.Steps.{check_fails, check_passes}
use Rattle.nodes.specs.Atoms.{atom_in}
use Rattle.nodes.specs.declared.Atom.{Atom as NodeAtom}
use Rattle.assumptions.specs.Area.{entry_of}

-- ---- an answer that is no value
pub is_misfit : {A : Type 0} {r : Result A Misfit} → IsErr r → r ≡ Err misfit
is_misfit {r = r} h = go r h
  where
    go : {A : Type 0} (r : Result A Misfit) → IsErr r → r ≡ Err misfit
    go (Ok a) h = absurd cc
    go (Err e) h = refl

-- ---- kinds, and their tags
kind_tag : (a : Comparison) → variant comparison-type a ≡ tag_of a
unfolding tag_of
kind_tag Equal = refl
kind_tag Unequal = refl
kind_tag Less = refl
kind_tag AtMost = refl

pub same_kind : (a b : Comparison) {x : Bool} → x ≡ sameb comparison-type a b → x ≡ eqb (tag_of a) (tag_of b)
same_kind a b e = rw (e, kind_tag a, kind_tag b)

-- ---- an assumption
module _ (ws : List ℕ) (k : ℕ) {a : NodeAtom} (e : a ≡ entry_of ws k) (claimed : NodeAtom) where
  pub assumption_is : {x y z : Bool} → x ≡ sameb comparison-type claimed.kind a.kind → y ≡ eq_term (term_at ws claimed.left) (term_at ws a.left) → z ≡ eq_term (term_at ws claimed.right) (term_at ws a.right)
      → (x && y && z) ≡ eq_atom (atom_in ws claimed) (atom_in ws (entry_of ws k))
  unfolding eq_atom
  assumption_is h i j = rw (← e, same_kind claimed.kind a.kind h, i, j)

-- ---- the form of a node, as an arm of a match on its view knows it
same_tag : (a b : Operation) {x : Bool} → x ≡ sameb operation-type a b → x ≡ eqb (operation_tag a) (operation_tag b)
same_tag Sum Sum e = e
same_tag Sum Difference e = e
same_tag Sum Mask e = e
same_tag Difference Sum e = e
same_tag Difference Difference e = e
same_tag Difference Mask e = e
same_tag Mask Sum e = e
same_tag Mask Difference e = e
same_tag Mask Mask e = e

pair_parts : (o : Operation) (tag : ℕ) (s t : Term) → pair_of tag (operation_of o s t) ≡ (check (eqb (operation_tag o) tag) misfit >>= λ _. Ok (s, t))
unfolding pair_of
pair_parts Sum tag s t = refl
pair_parts Difference tag s t = refl
pair_parts Mask tag s t = refl

no_operands : (f : ℕ → Term) (o : Operation) (n : Node) → ((own : Operation) (l r : ℕ) → n ≡ Pair own l r → ⊥) → Err misfit ≡ pair_of (operation_tag o) (build f n)
unfolding pair_of ◌>>=◌ check
no_operands f Sum (Constant c) h = refl
no_operands f Difference (Constant c) h = refl
no_operands f Mask (Constant c) h = refl
no_operands f Sum (Variable v) h = refl
no_operands f Difference (Variable v) h = refl
no_operands f Mask (Variable v) h = refl
no_operands f o (Pair own l r) h = absurd (h own l r refl)
no_operands f Sum (Shift count p) h = refl
no_operands f Difference (Shift count p) h = refl
no_operands f Mask (Shift count p) h = refl

no_shift : (f : ℕ → Term) (n : Node) → ((count p : ℕ) → n ≡ Shift count p → ⊥) → Err misfit ≡ shift_of (build f n)
unfolding shift_of ◌>>=◌ check
no_shift f (Constant c) h = refl
no_shift f (Variable v) h = refl
no_shift f (Pair Sum l r) h = refl
no_shift f (Pair Difference l r) h = refl
no_shift f (Pair Mask l r) h = refl
no_shift f (Shift count p) h = absurd (h count p refl)

no_constant : (f : ℕ → Term) (n : Node) (k : ℕ) → ((c : ℕ) → n ≡ Constant c → ⊥) → false ≡ eq_term (build f n) (constant k)
unfolding eq_term
no_constant f (Constant c) k h = absurd (h c refl)
no_constant f (Variable v) k h = refl
no_constant f (Pair Sum l r) k h = refl
no_constant f (Pair Difference l r) k h = refl
no_constant f (Pair Mask l r) k h = refl
no_constant f (Shift count p) k h = refl

no_operation : (f : ℕ → Term) (n : Node) (u : Term) → ((own : Operation) (l r : ℕ) → n ≡ Pair own l r → ⊥) → ((count p : ℕ) → n ≡ Shift count p → ⊥) → Err misfit ≡ congruent (build f n) u
unfolding congruent
no_operation f (Constant c) u h k = refl
no_operation f (Variable v) u h k = refl
no_operation f (Pair own l r) u h k = absurd (h own l r refl)
no_operation f (Shift count p) u h k = absurd (k count p refl)

congruent_pairs : (o : Operation) (s t u : Term) → congruent (operation_of o s t) u ≡ equal_pairs s t (pair_of (operation_tag o) u)
unfolding congruent sum_of difference_of mask_of
congruent_pairs Sum s t u = refl
congruent_pairs Difference s t u = refl
congruent_pairs Mask s t u = refl

module _ {ws : List ℕ} {i : ℕ} (f : Formed ws (suc i)) where
  module _ {n : Node} (e : n ≡ view_of ws i) where
    pub not_pair : (o : Operation) → ((own : Operation) (l r : ℕ) → n ≡ Pair own l r → ⊥) → Err misfit ≡ pair_of (operation_tag o) (term_at ws i)
    not_pair o h = rw (node_built f.shaped e) (no_operands (term_at ws) o n h)

    pub not_shift : ((count p : ℕ) → n ≡ Shift count p → ⊥) → Err misfit ≡ shift_of (term_at ws i)
    not_shift h = rw (node_built f.shaped e) (no_shift (term_at ws) n h)

    pub not_constant : (k : ℕ) → ((c : ℕ) → n ≡ Constant c → ⊥) → false ≡ eq_term (term_at ws i) (constant k)
    not_constant k h = rw (node_built f.shaped e) (no_constant (term_at ws) n k h)

    pub not_operation : (u : Term) → ((own : Operation) (l r : ℕ) → n ≡ Pair own l r → ⊥) → ((count p : ℕ) → n ≡ Shift count p → ⊥) → Err misfit ≡ congruent (term_at ws i) u
    not_operation u h k = rw (node_built f.shaped e) (no_operation (term_at ws) n u h k)

  -- a node of an operation
  module _ {own : Operation} {a b : ℕ} (e : Pair own a b ≡ view_of ws i) where
    pub pair_is : (o : Operation) {x : Bool} → x ≡ sameb operation-type own o → x ≡ true → Ok (term_at ws a, term_at ws b) ≡ pair_of (operation_tag o) (term_at ws i)
    pair_is o h t = rw (node_built f.shaped e, pair_parts own (operation_tag o) (term_at ws a) (term_at ws b)) (check_passes _ _ (sym (same_tag own o h) ∙ t) refl)

    pub pair_differs : (o : Operation) {x : Bool} → x ≡ sameb operation-type own o → x ≡ false → Err misfit ≡ pair_of (operation_tag o) (term_at ws i)
    pair_differs o h t = rw (node_built f.shaped e, pair_parts own (operation_tag o) (term_at ws a) (term_at ws b)) (check_fails _ _ (sym (same_tag own o h) ∙ t))

    pub pair_congruent : (u : Term) → congruent (term_at ws i) u ≡ equal_pairs (term_at ws a) (term_at ws b) (pair_of (operation_tag own) u)
    pair_congruent u = rw (node_built f.shaped e) (congruent_pairs own (term_at ws a) (term_at ws b) u)
