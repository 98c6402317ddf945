-- The run of decoded code, one step further. Assumes nothing.
use mathlib.Core.Path.{◌≡◌, refl, sym, ◌∙◌}
use mathlib.Core.Option.{none, some}
use mathlib.Core.List.{List, [], ◌∷◌}
use Prim.Native.Nat.{ℕ, zero, suc, ◌+◌, ◌-◌, ◌≤◌, ◌<◌}
use native.Mathlib.Omega.{arith}
use native.Mathlib.Nat.{sub-zero}
use lib.ListN.{length, get_or, get_elem?}
use Rattle.model.specs.Policy.{Policy}
use Rattle.model.specs.Machine.{State, Step, start_of, next, returns, without_right, past_end, step}
use Rattle.model.specs.Runner.{Run, stopped, run_from}
use Rattle.model.specs.declared.Region.{Region}
use Rattle.model.specs.declared.Instruction.{Instruction}
use Rattle.model.specs.declared.Outcome.{Outcome}
use Rattle.machine.specs.declared.Progress.{Progress}
use Rattle.machine.specs.declared.Progress.TheVariants.{Next, Returned, WithoutRight}
use Rattle.machine.specs.Step.{Ready, Under, Executed, state, step_of}
use Rattle.runs.specs.Counted.{counted}
use Rattle.runs.specs.Run.{Runnable, Ran}

-- ---- the instruction at the counter

-- an element that is there, and one that is not
there : {A : Type 0} (l : List A) (i : ℕ) (d : A) → i < length l → get_elem? l i ≡ some (get_or l i d)
there [] i d h = absurd (omega arith)
there (x ∷ xs) zero d h = refl
there (x ∷ xs) (suc i) d h = there xs i d (omega arith)

beyond : {A : Type 0} (l : List A) (i : ℕ) → length l ≤ i → get_elem? l i ≡ none
beyond [] i h = refl
beyond (x ∷ xs) zero h = absurd (omega arith)
beyond (x ∷ xs) (suc i) h = beyond xs i (omega arith)

-- ---- the run

-- what the loop keeps: the whole run is the run from here on
pub record Going (code : List Instruction) (regions : List Region) (registers₀ memory₀ : List ℕ) (budget : ℕ) (registers memory : List ℕ) (counter steps : ℕ) : Type 0 where
  pub runnable : Runnable code registers₀
  pub as_many : length registers ≡ length registers₀
  pub as_long : length memory ≡ length memory₀
  pub rest : (policy : Policy) → Under policy (length memory₀) regions
      → run_from policy code budget 0 (start_of registers₀ memory₀) ≡ run_from policy code (budget - steps) steps (state counter registers memory)

module _ (code : List Instruction) (regions : List Region) (registers₀ memory₀ : List ℕ) (budget : ℕ) where
  -- the policies that the run is under
  abbrev Here : Policy → Type 0
  Here policy = Under policy (length memory₀) regions

  -- the run that is promised
  abbrev Promised : Outcome → (registers memory : List ℕ) → Type 0
  Promised = Ran code regions registers₀ memory₀ budget

  promise : (r : Outcome) (registers memory : List ℕ)
      → ((p : Policy) → Here p → record { outcome = r; registers = registers; memory = memory } ≡ run_from p code budget 0 (start_of registers₀ memory₀))
      → Promised r registers memory
  promise r registers memory e = record { run = e; steps = λ p u. rw (e p u) (counted p code (start_of registers₀ memory₀) budget) }

  pub begin : Runnable code registers₀ → Going code regions registers₀ memory₀ budget registers₀ memory₀ 0 0
  begin r = record { runnable = r; as_many = refl; as_long = refl; rest = λ p u. rw sub-zero }

  module _ (registers memory : List ℕ) (counter steps : ℕ) (g : Going code regions registers₀ memory₀ budget registers memory counter steps) where
    abbrev here : State
    here = state counter registers memory

    pub spent : steps ≡ budget → Promised (record { number = 20; place = counter; steps = budget }) registers memory
    unfolding run_from
    spent e =
        let z : budget - steps ≡ 0 = omega arith in
        promise _ _ _ (λ p u. rw (g.rest p u, z, e))

    module _ (left : steps < budget) where
      -- what follows a step
      abbrev after : Policy → Step → Run
      after p x =
          elim x [
            | next t ↦ run_from p code (budget - (steps + 1)) (steps + 1) t
            | returns ↦ stopped 0 (steps + 1) here
            | without_right ↦ stopped 21 steps here
            | past_end ↦ stopped 22 steps here
          ]

      goes_on : (p : Policy) → Here p → (x : Step) → step p code here ≡ x → run_from p code budget 0 (start_of registers₀ memory₀) ≡ after p x
      unfolding run_from
      goes_on p u x e =
          let s : budget - steps ≡ suc (budget - (steps + 1)) = omega arith in
          g.rest p u ∙ rw (s, e, run_from)

      pub past : length code ≤ counter → Promised (record { number = 22; place = counter; steps = steps }) registers memory
      unfolding step
      past h = promise _ _ _ (λ p u. sym (goes_on p u past_end (rw (beyond code counter h, step))))

      -- the instruction is there, at the counter
      module _ (h : counter < length code) (other : Instruction) where
        abbrev instruction : Instruction
        instruction = get_or code counter other

        pub ready : Ready counter registers instruction
        ready = record {
          low = omega (arith, g.runnable.short);
          sixteen = g.as_many ∙ g.runnable.sixteen;
          size = length code;
          formed = g.runnable.formed counter other h;
        }

        module _ (r : Progress) (registers' memory' : List ℕ) (x : Executed regions instruction here r registers' memory') where
          stepped : (q : Progress) → r ≡ q → (p : Policy) → Here p → run_from p code budget 0 (start_of registers₀ memory₀) ≡ after p (step_of q registers' memory')
          unfolding step
          stepped q e p u =
              let v : Under p (length memory) regions = record { words = u.words ∙ sym g.as_long; granted = u.granted } in
              goes_on p u (step_of q registers' memory') (rw (there code counter other h, ← e, step) (sym (x.step p v)))

          pub further : (to : ℕ) → r ≡ Next to → length registers' ≡ length registers → length memory' ≡ length memory
              → Going code regions registers₀ memory₀ budget registers' memory' to (steps + 1)
          further to e lr lm = record {
            runnable = g.runnable;
            as_many = lr ∙ g.as_many;
            as_long = lm ∙ g.as_long;
            rest = stepped (Next to) e;
          }

          pub returned : r ≡ Returned → Promised (record { number = 0; place = counter; steps = steps + 1 }) registers' memory'
          returned e =
              let k = rw e at x.kept in
              promise _ _ _ (λ p u. rw (k.0, k.1) (sym (stepped Returned e p u)))

          pub refused : r ≡ WithoutRight → Promised (record { number = 21; place = counter; steps = steps }) registers' memory'
          refused e =
              let k = rw e at x.kept in
              promise _ _ _ (λ p u. rw (k.0, k.1) (sym (stepped WithoutRight e p u)))
