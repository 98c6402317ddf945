-- A step of one instruction: a law for each operation. Assumes nothing.
use mathlib.Core.Path.{◌≡◌, refl, ◌∙◌}
use mathlib.Core.Bool.{Bool, true, false}
use Prim.Native.Nat.{ℕ, ◌+◌}
use mathlib.Core.List.{List}
use lib.ListN.{length, get_or, set}
use lib.Dec.{ltb, eqb}
use Rattle.model.specs.Word.{add_w, sub_w, mask_w, shift_w}
use Rattle.model.specs.Policy.{Policy, readable_word, writable_word}
use Rattle.model.specs.Machine.{State, next, assigned, branched, execute}
use Rattle.model.specs.declared.Region.{Region}
use Rattle.model.specs.declared.Instruction.{Instruction}
use Rattle.model.specs.declared.Instruction.TheVariants.{Set, Add, AddImmediate, Subtract, Load, Store, Jump, JumpLess, JumpEqual, Return, Mask, Shift}
use Rattle.machine.specs.declared.Progress.{Progress}
use Rattle.machine.specs.declared.Progress.TheVariants.{Next, Returned, WithoutRight}
use Rattle.rights.specs.Right.{readable_in, writable_in}
use Rattle.machine.specs.Step.{Under, Executed, state, target, step_of, Kept}

module _ (policy : Policy) (memory : ℕ) (regions : List Region) (u : Under policy memory regions) (w : ℕ) where
  pub reads : readable_word policy w ≡ readable_in memory regions w
  unfolding readable_word
  reads = rw (u.words, u.granted)

  pub writes : writable_word policy w ≡ writable_in memory regions w
  unfolding writable_word
  writes = rw (u.words, u.granted)

module _ (regions : List Region) (counter : ℕ) (registers memory : List ℕ) where
  abbrev s : State
  s = state counter registers memory

  module _ (instruction q : Instruction) (e : instruction ≡ q) where
    -- it goes on
    onward : (r : Progress) (c : ℕ) (registers' memory' : List ℕ) → r ≡ Next c
        → ((policy : Policy) → Under policy (length memory) regions → next (state c registers' memory') ≡ execute policy s q)
        → Executed regions instruction s r registers' memory'
    onward r c registers' memory' n f = rw (e, n) (record { step = f; kept = tt })

    -- it ends the run
    ends : (r : Progress) → Kept r s registers memory
        → ((policy : Policy) → Under policy (length memory) regions → step_of r registers memory ≡ execute policy s q)
        → Executed regions instruction s r registers memory
    ends r k f = rw e (record { step = f; kept = k })

  module _ (instruction : Instruction) (r : Progress) (registers' : List ℕ) (d w : ℕ) (done : (r ≡ Next (counter + 1)) × (registers' ≡ set registers d w)) where
    pub sets : instruction ≡ Set d w → Executed regions instruction s r registers' memory
    unfolding execute
    sets e = onward instruction (Set d w) e r (counter + 1) registers' memory done.0 (λ p u. rw done.1)

    pub adds : (a b x y : ℕ) → instruction ≡ Add d a b → x ≡ get_or registers a 0 → y ≡ get_or registers b 0 → w ≡ add_w x y → Executed regions instruction s r registers' memory
    unfolding execute
    adds a b x y e ex ey ew = onward instruction (Add d a b) e r (counter + 1) registers' memory done.0 (λ p u. rw (done.1, ew, ex, ey))

    -- d := f of the word of a
    of_one : (f : ℕ → ℕ) (q : Instruction) (a x : ℕ) → ((policy : Policy) → next (assigned s d (f (get_or registers a 0))) ≡ execute policy s q)
        → instruction ≡ q → x ≡ get_or registers a 0 → w ≡ f x → Executed regions instruction s r registers' memory
    of_one f q a x is e ex ew = onward instruction q e r (counter + 1) registers' memory done.0 (λ p u. rw (done.1, ew, ex) (is p))

    pub adds_immediate : (a i x : ℕ) → instruction ≡ AddImmediate d a i → x ≡ get_or registers a 0 → w ≡ add_w x i → Executed regions instruction s r registers' memory
    unfolding execute
    adds_immediate a i x = of_one (λ y. add_w y i) (AddImmediate d a i) a x (λ p. refl)

    pub masks : (a i x : ℕ) → instruction ≡ Mask d a i → x ≡ get_or registers a 0 → w ≡ mask_w x i → Executed regions instruction s r registers' memory
    unfolding execute
    masks a i x = of_one (λ y. mask_w y i) (Mask d a i) a x (λ p. refl)

    pub shifts : (a i x : ℕ) → instruction ≡ Shift d a i → x ≡ get_or registers a 0 → w ≡ shift_w i x → Executed regions instruction s r registers' memory
    unfolding execute
    shifts a i x = of_one (λ y. shift_w i y) (Shift d a i) a x (λ p. refl)

    pub subtracts : (a b x y : ℕ) → instruction ≡ Subtract d a b → x ≡ get_or registers a 0 → y ≡ get_or registers b 0 → w ≡ sub_w x y → Executed regions instruction s r registers' memory
    unfolding execute
    subtracts a b x y e ex ey ew = onward instruction (Subtract d a b) e r (counter + 1) registers' memory done.0 (λ p u. rw (done.1, ew, ex, ey))

  -- the address of a load or store, and whether the right to it is given
  module _ (d a i x m : ℕ) (ex : x ≡ get_or registers a 0) (em : m ≡ add_w x i) (given : Bool) where
    address : m ≡ add_w (get_or registers a 0) i
    address = em ∙ rw ex

    module _ (g : given ≡ readable_in (length memory) regions m) where
      pub loads : given ≡ true → (r : Progress) (registers' : List ℕ) → (r ≡ Next (counter + 1)) × (registers' ≡ set registers d (get_or memory m 0)) → Executed regions (Load d a i) s r registers' memory
      unfolding execute
      loads t r registers' done = onward (Load d a i) (Load d a i) refl r (counter + 1) registers' memory done.0 (λ p u. rw (done.1, ← address, reads p (length memory) regions u m, ← g, t))

      pub refuses_load : given ≡ false → Executed regions (Load d a i) s WithoutRight registers memory
      unfolding execute
      refuses_load t = ends (Load d a i) (Load d a i) refl WithoutRight (refl, refl) (λ p u. rw (← address, reads p (length memory) regions u m, ← g, t))

    module _ (g : given ≡ writable_in (length memory) regions m) where
      pub stores : given ≡ true → (w : ℕ) → w ≡ get_or registers d 0 → (r : Progress) (memory' : List ℕ) → (r ≡ Next (counter + 1)) × (memory' ≡ set memory m w) → Executed regions (Store d a i) s r registers memory'
      unfolding execute
      stores t w ew r memory' done = onward (Store d a i) (Store d a i) refl r (counter + 1) registers memory' done.0 (λ p u. rw (done.1, ← address, writes p (length memory) regions u m, ← g, t, ew))

      pub refuses_store : given ≡ false → Executed regions (Store d a i) s WithoutRight registers memory
      unfolding execute
      refuses_store t = ends (Store d a i) (Store d a i) refl WithoutRight (refl, refl) (λ p u. rw (← address, writes p (length memory) regions u m, ← g, t))

  module _ (instruction : Instruction) where
    pub jumps : (i : ℕ) → instruction ≡ Jump i → Executed regions instruction s (Next i) registers memory
    unfolding execute
    jumps i e = onward instruction (Jump i) e (Next i) i registers memory refl (λ p u. refl)

    branching : (taken : Bool) (i : ℕ) → next (state (target taken i counter) registers memory) ≡ next (branched s taken i)
    branching true i = refl
    branching false i = refl

    module _ (r : Progress) (a b i x y : ℕ) (ex : x ≡ get_or registers a 0) (ey : y ≡ get_or registers b 0) where
      pub jumps_less : instruction ≡ JumpLess a b i → r ≡ Next (target (ltb x y) i counter) → Executed regions instruction s r registers memory
      unfolding execute
      jumps_less e n = onward instruction (JumpLess a b i) e r _ registers memory n (λ p u. rw (← ex, ← ey) (branching (ltb x y) i))

      pub jumps_equal : instruction ≡ JumpEqual a b i → r ≡ Next (target (eqb x y) i counter) → Executed regions instruction s r registers memory
      unfolding execute
      jumps_equal e n = onward instruction (JumpEqual a b i) e r _ registers memory n (λ p u. rw (← ex, ← ey) (branching (eqb x y) i))

    pub returning : instruction ≡ Return → Executed regions instruction s Returned registers memory
    unfolding execute
    returning e = ends instruction Return e Returned (refl, refl) (λ p u. refl)
