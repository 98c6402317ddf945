-- "Lent registers and memory then hold the machine's state after exactly the steps reported." Assumes nothing.
use Rattle.std.specs.Prelude.{◌≡◌, true, false, List, eqb}
use Rattle.std.proofs.Math.Path.{refl}
use Prim.Native.Nat.{ℕ, zero, suc, ◌+◌, ◌≤◌}
use native.Mathlib.Omega.{arith}
use Rattle.std.proofs.Common.{add-one}
use Rattle.model.specs.Policy.{Policy}
use Rattle.model.specs.Machine.{State, Step, next, returns, without_right, past_end, Reached, running, returned, step, advance, after}
use Rattle.model.specs.Runner.{Run, run_from}
use Rattle.model.specs.declared.Instruction.{Instruction}

-- the state left, in which the machine has returned or runs on
abbrev pub reached_of : Run → Reached
reached_of r =
    let s : State = record { counter = r.outcome.place; registers = r.registers; memory = r.memory } in
    elim (eqb r.outcome.number 0) [ true ↦ returned s | false ↦ running s ]

module _ (policy : Policy) (code : List Instruction) where
  -- the steps reported: the machine's own to the state left, at most the budget, and all of it after a 20
  pub record Counted (start : State) (budget : ℕ) (r : Run) : Type 0 where
    pub reached : after policy code r.outcome.steps start ≡ reached_of r
    pub within : r.outcome.steps ≤ budget
    pub spent : r.outcome.number ≡ 20 → r.outcome.steps ≡ budget

  module _ (start : State) where
    -- with so many steps run and so many of the budget left, by what the next step comes to
    one : (left steps : ℕ) (s : State) → after policy code steps start ≡ running s → (x : Step) → step policy code s ≡ x
        → ((t : State) → x ≡ next t → Counted start (steps + suc left) (run_from policy code left (steps + 1) t))
        → Counted start (steps + suc left) (run_from policy code (suc left) steps s)
    unfolding run_from after advance
    one left steps s h (next t) e k = rw (e, run_from) (k t refl)
    one left steps s h returns e k = rw (e, run_from) (record { reached = rw (add-one steps, h, e, advance); within = omega arith; spent = λ z. omega arith })
    one left steps s h without_right e k = rw (e, run_from) (record { reached = h; within = omega arith; spent = λ z. omega arith })
    one left steps s h past_end e k = rw (e, run_from) (record { reached = h; within = omega arith; spent = λ z. omega arith })

    counted_from : (left steps : ℕ) (s : State) → after policy code steps start ≡ running s → Counted start (steps + left) (run_from policy code left steps s)
    unfolding run_from after advance
    counted_from zero steps s h = record { reached = h; within = omega arith; spent = λ z. omega arith }
    counted_from (suc left) steps s h =
        let same : steps + 1 + left ≡ steps + suc left = omega arith in
        one left steps s h (step policy code s) refl (λ t e. rw same at (counted_from left (steps + 1) t (rw (add-one steps, h, e, advance))))

    pub counted : (budget : ℕ) → Counted start budget (run_from policy code budget 0 start)
    unfolding after
    counted budget = let same : 0 + budget ≡ budget = omega arith in rw same at (counted_from budget 0 start refl)
