-- Runs of the machine that return: what `after` and `run_from` say of them, and the annotations from which there is one. Assumes nothing.
use Prim.Native.Nat.{ℕ, ◌≤◌, ◌<◌, ◌+◌, zero, suc}
use mathlib.Core.List.{List}
use mathlib.Core.Option.{some}
use mathlib.Core.Path.{◌≡◌, refl, ap, ◌∙◌}
use native.Mathlib.Nat.{add-zero}
use native.Mathlib.Omega.{arith}
use lib.ListN.{get_elem?}
use Rattle.model.specs.Annotation.{Annotation, annotation_at}
use Rattle.model.specs.Atom.{AllHold, registers_of}
use Rattle.model.specs.Machine.{State, execute, step, advance, after, next, returns, running, returned}
use Rattle.model.specs.Policy.{Policy}
use Rattle.model.specs.Property.{Words, Ready}
use Rattle.model.specs.Routine.{Routine}
use Rattle.model.specs.Runner.{stopped, run_from}
use Rattle.model.specs.Term.{eval}
use Rattle.model.specs.declared.Instruction.{Instruction}

module _ (policy : Policy) (code : List Instruction) where
  -- from the first state the machine returns in the second by so many steps, and each state on the way is ready
  pub data Runs : State → ℕ → State → Type 0 where
    last : {s : State} → Ready policy code s → step policy code s ≡ returns → Runs s 1 s
    more : {s t f : State} {n : ℕ} → Ready policy code s → step policy code s ≡ next t → Runs t n f → Runs s (suc n) f

  -- a step first
  pub after_next : (s : State) {t : State} (k : ℕ) → step policy code s ≡ next t → after policy code (suc k) s ≡ after policy code k t
  unfolding after advance
  after_next s zero e = rw (e, advance)
  after_next s (suc k) e = ap (advance policy code) (after_next s k e)

  pub runs_after : {s f : State} {n : ℕ} → Runs s n f → after policy code n s ≡ returned f
  unfolding after advance
  runs_after (last r e) = rw (e, advance)
  runs_after (more {s = s} {n = n} r e h) = after_next s n e ∙ runs_after h

  pub runs_ready : {s f : State} {n : ℕ} → Runs s n f → (k : ℕ) → k < n
      → (t : State) × (after policy code k s ≡ running t) × Ready policy code t
  unfolding after advance
  runs_ready (last {s = s} r e) zero l = (s, refl, r)
  runs_ready (last r e) (suc k) l = absurd (omega arith)
  runs_ready (more {s = s} r e h) zero l = (s, refl, r)
  runs_ready (more {s = s} r e h) (suc k) l = let (t, a, q) = runs_ready h k (omega arith) in (t, after_next s k e ∙ a, q)

  pub runs_enough : {s f : State} {n : ℕ} → Runs s n f → (budget steps : ℕ) → n ≤ budget
      → run_from policy code budget steps s ≡ stopped 0 (steps + n) f
  unfolding run_from
  runs_enough (last r e) zero steps l = absurd (omega arith)
  runs_enough (last r e) (suc budget) steps l = rw (e, run_from)
  runs_enough (more r e h) zero steps l = absurd (omega arith)
  runs_enough (more {f = f} {n = n} r e h) (suc budget) steps l =
      let q : steps + 1 + n ≡ steps + suc n = omega arith in
      rw (e, run_from) (runs_enough h budget (steps + 1) (omega arith) ∙ ap (λ (k : ℕ). stopped 0 k f) q)

  pub runs_spent : {s f : State} {n : ℕ} → Runs s n f → (budget steps : ℕ) → budget < n
      → (t : State) × (after policy code budget s ≡ running t) × (run_from policy code budget steps s ≡ stopped 20 (steps + budget) t)
  unfolding after advance run_from
  runs_spent (last {s = s} r e) zero steps l = (s, refl, rw add-zero)
  runs_spent (last r e) (suc budget) steps l = absurd (omega arith)
  runs_spent (more {s = s} r e h) zero steps l = (s, refl, rw add-zero)
  runs_spent (more {s = s} r e h) (suc budget) steps l =
      let (t, a, q) = runs_spent h budget (steps + 1) (omega arith) in
      let p : steps + 1 + budget ≡ steps + suc budget = omega arith in
      (t, after_next s budget e ∙ a, rw (e, run_from) (q ∙ ap (λ (k : ℕ). stopped 20 k t) p))

  -- the step of a state whose instruction is known
  pub step_execute : (s : State) {instruction : Instruction} → get_elem? code s.counter ≡ some instruction
      → step policy code s ≡ execute policy s instruction
  unfolding step
  step_execute s e = rw (e, step)

-- From a state, with so many steps used, the machine returns within a limit, with the postcondition true.
pub record SafeRun (policy : Policy) (code : List Instruction) (used limit : ℕ) (m : State) : Type 0 where
  pub steps : ℕ
  pub final : State
  pub runs : Runs policy code m steps final
  pub within : used + steps ≤ limit
  pub postcondition : AllHold (registers_of final.registers) policy.postcondition

module _ {policy : Policy} {code : List Instruction} where
  -- a step before
  pub safe_step : {used limit : ℕ} {m u : State} → Ready policy code m → step policy code m ≡ next u
      → SafeRun policy code (used + 1) limit u → SafeRun policy code used limit m
  safe_step r e h =
      record {
        steps = suc h.steps;
        final = h.final;
        runs = more r e h.runs;
        within = omega (arith, h.within);
        postcondition = h.postcondition;
      }

  -- what remains of a credit
  pub safe_rest : {used limit less : ℕ} {m : State} → used + less ≤ limit → SafeRun policy code 0 less m → SafeRun policy code used limit m
  safe_rest l h =
      record {
        steps = h.steps;
        final = h.final;
        runs = h.runs;
        within = omega (arith, h.within);
        postcondition = h.postcondition;
      }

-- The machine arrives at an annotation with its atoms true and a credit below a limit, and is safe within that credit.
abbrev pub SafeBelow : Policy → Routine → (limit : ℕ) → Type 0
SafeBelow policy routine limit =
    (a : Annotation) (m : State)
    → annotation_at routine.annotations m.counter ≡ some a
    → Words policy m.registers m.memory
    → AllHold (registers_of m.registers) a.atoms
    → eval (registers_of m.registers) a.credit < limit
    → SafeRun policy routine.code 0 (eval (registers_of m.registers) a.credit) m
