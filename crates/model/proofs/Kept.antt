-- In every run, a memory word that the policy does not make writable keeps what it held. Assumes nothing.
use Prim.Native.Nat.{ℕ, ◌+◌, zero, suc}
use mathlib.Core.Bool.{Bool, true, false}
use mathlib.Core.List.{List}
use mathlib.Core.Option.{some, none, Option}
use mathlib.Core.Path.{◌≡◌, refl, ap, ◌∙◌, sym}
use native.Mathlib.Omega.{arith}
use lib.Dec.{eqb, ltb}
use lib.ListN.{get_elem?, get_or}
use Rattle.model.specs.Kept.{Protected, Kept}
use Rattle.model.specs.Machine.{State, start_of, Step, word, address, assigned, stored, branched, permitted, execute, step, next, returns, without_right, past_end}
use Rattle.model.specs.Policy.{Policy, readable_word, writable_word, read_policy}
use Rattle.model.specs.Result.{Result, Err, Ok}
use Rattle.model.specs.Runner.{run_from, read_start, run_of}
use Rattle.model.specs.declared.Instruction.{Instruction}
use Rattle.model.specs.declared.Instruction.TheVariants.{Set, Add, AddImmediate, Subtract, Load, Store, Jump, JumpLess, JumpEqual, Return, Mask, Shift}
use Rattle.model.specs.declared.Refusal.{Refusal}
use Rattle.model.proofs.Gives.{Gives, gives, gives_next, gives_value}
use Rattle.model.proofs.Lists.{get_other}

-- a step that goes on leaves the word as it was
data Leaves (w : ℕ) (s : State) : Step → Type 0 where
  on : {t : State} → get_elem? t.memory w ≡ get_elem? s.memory w → Leaves w s (next t)
  return : Leaves w s returns
  refused : Leaves w s without_right
  past : Leaves w s past_end

module _ (policy : Policy) (w : ℕ) (shut : writable_word policy w ≡ false) where
  -- a word that may be written is another one
  other : (a : ℕ) → writable_word policy a ≡ true → a ≡ w → ⊥
  other a may e = let z : true ≡ false = sym may ∙ ap (writable_word policy) e ∙ shut in let y : ◌≡◌ {A = ℕ} 0 1 = cc in absurd (omega arith)

  module _ (s : State) where
    same_permitted : (right : Bool) (t : State) → get_elem? t.memory w ≡ get_elem? s.memory w → Leaves w s (permitted right t)
    same_permitted true t e = on e
    same_permitted false t e = refused

    same_branched : (taken : Bool) (i : ℕ) → Leaves w s (next (branched s taken i))
    same_branched true i = on refl
    same_branched false i = on refl

    store_leaves : (a x : ℕ) (right : Bool) → writable_word policy a ≡ right → Leaves w s (permitted right (stored s a x))
    store_leaves a x true may = on (get_other s.memory a w x (other a may))
    store_leaves a x false may = refused

    execute_leaves : (instruction : Instruction) → Leaves w s (execute policy s instruction)
    unfolding execute
    execute_leaves (Set d i) = on refl
    execute_leaves (Add d a b) = on refl
    execute_leaves (AddImmediate d a i) = on refl
    execute_leaves (Subtract d a b) = on refl
    execute_leaves (Load d a i) = same_permitted (readable_word policy (address s a i)) (assigned s d (get_or s.memory (address s a i) 0)) refl
    execute_leaves (Store d a i) = store_leaves (address s a i) (word s d) _ refl
    execute_leaves (Jump i) = on refl
    execute_leaves (JumpLess a b i) = same_branched (ltb (word s a) (word s b)) i
    execute_leaves (JumpEqual a b i) = same_branched (eqb (word s a) (word s b)) i
    execute_leaves Return = return
    execute_leaves (Mask d a i) = on refl
    execute_leaves (Shift d a i) = on refl

  module _ (code : List Instruction) where
    step_leaves : (s : State) → Leaves w s (step policy code s)
    unfolding step
    step_leaves s = go (get_elem? code s.counter)
      where
        go : (o : Option Instruction) → Leaves w s (elim o as (λ (o : Option Instruction). Step) [ none ↦ past_end | some instruction ↦ execute policy s instruction ])
        go none = past
        go (some instruction) = execute_leaves s instruction

    run_leaves : (budget steps : ℕ) (s : State) → get_elem? (run_from policy code budget steps s).memory w ≡ get_elem? s.memory w
    unfolding run_from
    run_leaves zero steps s = refl
    run_leaves (suc budget) steps s = go (step policy code s) refl (step_leaves s) (run_leaves budget (steps + 1))
      where
        go : (x : Step) → step policy code s ≡ x → Leaves w s x
            → ((t : State) → get_elem? (run_from policy code budget (steps + 1) t).memory w ≡ get_elem? t.memory w)
            → get_elem? (run_from policy code (suc budget) steps s).memory w ≡ get_elem? s.memory w
        go (next t) e (on h) rest = rw (e, run_from) (rest t ∙ h)
        go returns e l rest = rw (e, run_from)
        go without_right e l rest = rw (e, run_from)
        go past_end e l rest = rw (e, run_from)

-- the policy of a run is the one in the bytes
start_policy : (policy_bytes package_bytes registers memory : List ℕ)
    → Gives (λ (i : Policy × List Instruction). read_policy policy_bytes ≡ Ok i.0) (read_start policy_bytes package_bytes registers memory)
unfolding read_start
start_policy policy_bytes package_bytes registers memory = gives_next λ _ e. gives_next λ _ _. gives_next λ _ _. gives e

pub kept : Kept
unfolding Kept Protected run_of
kept policy_bytes package_bytes registers memory budget w shut = go (read_start policy_bytes package_bytes registers memory) refl
  where
    go : (r : Result (Policy × List Instruction) Refusal) → read_start policy_bytes package_bytes registers memory ≡ r
        → get_elem? (run_of policy_bytes package_bytes registers memory budget).memory w ≡ get_elem? memory w
    go (Err r) e = rw (e, run_of)
    go (Ok (policy, code)) e =
        let read = gives_value e (start_policy policy_bytes package_bytes registers memory) in
        rw (e, run_of) (run_leaves policy w (shut policy read) code budget 0 (start_of registers memory))
