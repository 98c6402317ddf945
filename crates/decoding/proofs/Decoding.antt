-- The laws of decoding: a row of the table whose test passes or fails, an operation without a row, and what is decoded is formed. Assumes nothing.
use mathlib.Core.Path.{◌≡◌, refl, subst}
use mathlib.Core.Logic.{◌⊎◌, inl, inr}
use mathlib.Core.Bool.{Bool, true, false, ◌&&◌, and-eq-true_iff}
use mathlib.Core.Option.{none, some}
use Rattle.std.specs.Prelude.{None}
use mathlib.Core.List.{List, [], ◌∷◌}
use native.Mathlib.Omega.{arith}
use Prim.Native.Nat.{ℕ, zero, suc, ◌^◌, ◌≤◌, ◌<◌, zero-le}
use borrow.Author.Tests.{ltb-true, leb-true}
use lib.Dec.{ltb, leb, eqb}
use lib.ListN.{length, get_elem?}
use Rattle.model.specs.Result.{Fit, misfit, Err, Ok, ◌>>=◌, check, found}
use Rattle.model.specs.Expression.{register_count, most_count}
use Rattle.model.specs.Instruction.{provided, operations, decode, target_of, target_inside}
use Rattle.model.specs.declared.Instruction.{Instruction}
use Rattle.model.specs.declared.Instruction.TheVariants.{Set, Add, AddImmediate, Subtract, Load, Store, Jump, JumpLess, JumpEqual, Return, Mask, Shift}
use Rattle.decoding.specs.Decoding.{Formed}

-- operation k's row is f
pub row_at : (k op d a b i : ℕ) (f : ℕ → ℕ → ℕ → ℕ → Fit Instruction) → get_elem? operations k ≡ some f → op ≡ k → f d a b i ≡ decode op d a b i
unfolding decode ◌>>=◌ found
row_at k op d a b i f at_row e = rw (e, at_row)

past_end : {A : Type 0} (l : List A) (n : ℕ) → length l ≤ n → get_elem? l n ≡ none
past_end [] n h = refl
past_end (x ∷ l) zero h = absurd (omega arith)
past_end (x ∷ l) (suc n) h = past_end l n (omega arith)

pub no_row : (op d a b i : ℕ) → 12 ≤ op → Err misfit ≡ decode op d a b i
unfolding decode ◌>>=◌ found
no_row op d a b i h = rw (past_end operations op (omega arith))

-- a number that is k or the next, and not k
pub the_next : (k x : ℕ) → k ≤ x → x < suc (suc k) → (x ≡ k → ⊥) → x ≡ suc k
the_next k x l u n = omega arith

-- `omega` takes few facts that are `≢`: a bound from many of them goes up one at a time
above : (k x : ℕ) → k ≤ x → (x ≡ k → ⊥) → suc k ≤ x
above k x l n = omega arith

-- none of the single numbers of the arms: 4 or more; from 6 on, 7 or more; from 9 on, 12 or more
pub record Other (x : ℕ) : Type 0 where
  pub from4 : 4 ≤ x
  pub from6 : 6 ≤ x → 7 ≤ x
  pub from9 : 9 ≤ x → 12 ≤ x

pub other : (x : ℕ) → ((((((Unit {0} × (x ≡ 0 → ⊥)) × ((x ≡ 1) ⊎ (x ≡ 3) → ⊥)) × (x ≡ 2 → ⊥)) × (x ≡ 6 → ⊥)) × (x ≡ 9 → ⊥)) × (x ≡ 10 → ⊥)) × (x ≡ 11 → ⊥) → Other x
other x r =
    let low = r.0.0.0.0.0 in
    record {
      from4 = above 3 x (above 2 x (above 1 x (above 0 x zero-le low.0.1) (λ e. low.1 (inl e))) r.0.0.0.0.1) (λ e. low.1 (inr e));
      from6 = λ l. above 6 x l r.0.0.0.1;
      from9 = λ l. above 11 x (above 10 x (above 9 x l r.0.0.1) r.0.1) r.1;
    }

three : (p q r : Bool) → (p && q && r) ≡ true → (p ≡ true) × (q ≡ true) × (r ≡ true)
three p q r e =
    let f = (and-eq-true_iff (p && q) r).0 e in
    let g = (and-eq-true_iff p q).0 f.0 in
    (g.0, g.1, f.1)

four : (p q r s : Bool) → (p && q && r && s) ≡ true → (p ≡ true) × (q ≡ true) × (r ≡ true) × (s ≡ true)
four p q r s e =
    let f = (and-eq-true_iff (p && q && r) s).0 e in
    let g = three p q r f.0 in
    (g.0, g.1, g.2, f.1)

-- ---- what is decoded is formed, if the immediate is a word and a jump's target is inside

module _ (n d a b i : ℕ) (w : i < 2 ^ 32) where
  -- what the tests of the rows give
  three_registers : (q : Bool) → (ltb d register_count && ltb a register_count && ltb b register_count && q) ≡ true → (d < register_count) × (a < register_count) × (b < register_count)
  three_registers q t = let r = four _ _ _ _ t in (ltb-true d register_count r.0, ltb-true a register_count r.1, ltb-true b register_count r.2)

  two_registers : (q : Bool) → (ltb d register_count && ltb a register_count && q) ≡ true → (d < register_count) × (a < register_count) × (i < 2 ^ 32)
  two_registers q t = let r = three _ _ _ t in (ltb-true d register_count r.0, ltb-true a register_count r.1, w)

  counted : (q : Bool) → (ltb d register_count && ltb a register_count && q && leb i most_count) ≡ true → (d < register_count) × (a < register_count) × (i ≤ most_count)
  counted q t = let r = four _ _ _ _ t in (ltb-true d register_count r.0, ltb-true a register_count r.1, leb-true i most_count r.3)

  branch : (eqb d 0 && ltb a register_count && ltb b register_count) ≡ true → ltb i n ≡ true → (a < register_count) × (b < register_count) × (i < n)
  branch t z = let r = three (eqb d 0) (ltb a register_count) (ltb b register_count) t in (ltb-true a register_count r.1, ltb-true b register_count r.2, ltb-true i n z)

  abbrev FormedBy : (ℕ → ℕ → ℕ → ℕ → Fit Instruction) → Type 0
  FormedBy f = (x : Instruction) → f d a b i ≡ Ok x → target_inside n x ≡ true → Formed n x

  -- a row with this test and this instruction
  row : (t : Bool) (I : Instruction) → (t ≡ true → target_inside n I ≡ true → Formed n I) → FormedBy (λ d a b i. provided t I)
  unfolding provided ◌>>=◌ check
  row true I f x e inside = let p : I ≡ x = cc in subst (λ (y : Instruction). target_inside n y ≡ true → Formed n y) p (f refl) inside
  row false I f x e inside = let z : ◌≡◌ {A = ℕ} 0 1 = cc in absurd (omega arith)

  infixr 20 ◌then◌
  data EachFormed : List (ℕ → ℕ → ℕ → ℕ → Fit Instruction) → Type 0 where
    done : EachFormed []
    ◌then◌ : {f : ℕ → ℕ → ℕ → ℕ → Fit Instruction} {fs : List (ℕ → ℕ → ℕ → ℕ → Fit Instruction)} → FormedBy f → EachFormed fs → EachFormed (f ∷ fs)

  -- the rows of the table, in its order
  each_formed : EachFormed operations
  unfolding target_inside target_of
  each_formed =
      row _ (Set d i) (λ t z. (ltb-true d register_count (three _ _ _ t).0, w))
      then row _ (Add d a b) (λ t z. three_registers _ t)
      then row _ (AddImmediate d a i) (λ t z. two_registers _ t)
      then row _ (Subtract d a b) (λ t z. three_registers _ t)
      then row _ (Load d a i) (λ t z. two_registers _ t)
      then row _ (Store d a i) (λ t z. two_registers _ t)
      then row _ (Jump i) (λ t z. ltb-true i n z)
      then row _ (JumpLess a b i) (λ t z. branch t z)
      then row _ (JumpEqual a b i) (λ t z. branch t z)
      then row _ Return (λ t z. tt)
      then row _ (Mask d a i) (λ t z. two_registers _ t)
      then row _ (Shift d a i) (λ t z. counted _ t)
      then done

  formed_in : (fs : List (ℕ → ℕ → ℕ → ℕ → Fit Instruction)) → EachFormed fs → (op : ℕ) → FormedBy (λ d a b i. found (get_elem? fs op) misfit >>= λ f. f d a b i)
  unfolding ◌>>=◌ found
  formed_in [] done op x e z = let y : ◌≡◌ {A = ℕ} 0 1 = cc in absurd (omega arith)
  formed_in (f ∷ fs) (one then each) zero x e z = one x e z
  formed_in (f ∷ fs) (one then each) (suc op) x e z = formed_in fs each op x e z

  pub formed : (op : ℕ) (x : Instruction) → decode op d a b i ≡ Ok x → target_inside n x ≡ true → Formed n x
  unfolding decode
  formed op x e z = formed_in operations each_formed op x e z

-- an instruction that is no jump has no target
pub no_target : (x : Instruction) → ((i : ℕ) → x ≡ Jump i → ⊥) → ((a b i : ℕ) → x ≡ JumpLess a b i → ⊥) → ((a b i : ℕ) → x ≡ JumpEqual a b i → ⊥) → None ≡ target_of x
unfolding target_of
no_target (Set d i) j l e = refl
no_target (Add d a b) j l e = refl
no_target (AddImmediate d a i) j l e = refl
no_target (Subtract d a b) j l e = refl
no_target (Load d a i) j l e = refl
no_target (Store d a i) j l e = refl
no_target (Jump i) j l e = absurd (j i refl)
no_target (JumpLess a b i) j l e = absurd (l a b i refl)
no_target (JumpEqual a b i) j l e = absurd (e a b i refl)
no_target Return j l e = refl
no_target (Mask d a i) j l e = refl
no_target (Shift d a i) j l e = refl
