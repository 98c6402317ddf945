-- The ways out of the runner's checks. Assumes nothing.
use mathlib.Core.Path.{◌≡◌, refl, sym, ◌∙◌}
use mathlib.Core.Bool.{Bool, true, false, ◌&&◌, and-eq-true_iff}
use mathlib.Core.List.{List}
use Prim.Native.Nat.{ℕ}
use lib.ListN.{length}
use lib.Dec.{eqb}
use borrow.Author.Tests.{eqb-true}
use Rattle.std.specs.List.{All}
use Rattle.model.specs.Result.{Result, Err, Ok, ◌>>=◌, check}
use Rattle.model.specs.Policy as model
use Rattle.model.specs.Expression.{register_count}
use Rattle.model.specs.Runner.{read_start, run_of}
use Rattle.model.specs.Package.{read_header, read_code, code_of}
use Rattle.model.specs.Machine.{start_of}
use Rattle.model.specs.declared.Header.{Header}
use Rattle.model.specs.declared.Instruction.{Instruction}
use Rattle.model.specs.declared.Outcome.{Outcome}
use Rattle.model.specs.declared.Refusal.{Refusal}
use Rattle.model.specs.declared.Refusal.TheVariants.{WrongStart}
use Rattle.policy.specs.declared.Policy.{Policy}
use Rattle.policy.specs.Policy.{policy_of, policy_result, listed}
use Rattle.header.specs.Headers.{Fits}
use Rattle.decoding.specs.Decoding.{Formed}
use Rattle.routine.proofs.Facts.{code_length}
use Rattle.runs.specs.Counted.{Counted, counted}
use Rattle.runs.specs.Run.{Runnable}
use Rattle.runner.specs.Checks.{refusal_outcome, outcome_of, CodeRuns, Runs}

-- there are sixteen registers
pub sixteen : (registers : List ℕ) (rest : Bool) → (eqb (length registers) register_count && rest) ≡ true → length registers ≡ register_count
sixteen registers rest f = eqb-true (length registers) register_count ((and-eq-true_iff (eqb (length registers) register_count) rest).0 f).0

-- the code that was read, and the sixteen registers, are what a run asks for
pub runnable : {bytes : List ℕ} {header : Header} {code : List Instruction} {registers : List ℕ} → Fits bytes header → Ok code ≡ read_code bytes header → All (Formed (length code)) code → length registers ≡ register_count → Runnable code registers
runnable {bytes} {header} fits read formed long = record { short = rw (code_length bytes header (sym read)) fits.few; sixteen = long; formed = formed }

module _ (policy_bytes bytes registers memory : List ℕ) (budget : ℕ) where
  abbrev Promised : Outcome → (registers memory : List ℕ) → Type 0
  Promised = Runs policy_bytes bytes registers memory budget

  counts : (policy : model.Policy) (code : List Instruction) → read_start policy_bytes bytes registers memory ≡ Ok (policy, code)
      → Counted policy code (start_of registers memory) budget (run_of policy_bytes bytes registers memory budget)
  unfolding run_of
  counts policy code e = rw (e, run_of) (counted policy code (start_of registers memory) budget)

  promise : (r : Outcome) (registers' memory' : List ℕ) → record { outcome = r; registers = registers'; memory = memory' } ≡ run_of policy_bytes bytes registers memory budget → Promised r registers' memory'
  promise r registers' memory' e = record { is = e; steps = λ policy code s. rw e (counts policy code s) }

  stops : (x : Refusal) → read_start policy_bytes bytes registers memory ≡ Err x → Promised (refusal_outcome x) registers memory
  unfolding run_of
  stops x e = promise _ registers memory (rw (e, run_of))

  -- check 3 to 6 refuses
  pub no_policy : (x : Refusal) → policy_result policy_bytes (Err x) ≡ model.read_policy policy_bytes → Promised (refusal_outcome x) registers memory
  unfolding read_start policy_result ◌>>=◌
  no_policy x e = stops x (rw (← e, read_start))

  module _ (p : Policy) (passes : policy_result policy_bytes (Ok p) ≡ model.read_policy policy_bytes) where
    abbrev granted : model.Policy
    granted = policy_of policy_bytes p

    -- the lent words fit, or check 2 refuses
    abbrev fitting : Bool
    fitting = eqb (length registers) register_count && eqb (length memory) p.memory

    pub wrong_start : fitting ≡ false → Promised (refusal_outcome WrongStart) registers memory
    unfolding read_start policy_result policy_of ◌>>=◌ check
    wrong_start f = stops WrongStart (rw (← passes, f, read_start))

    module _ (f : fitting ≡ true) where
      -- what is left is the code
      by_code : read_start policy_bytes bytes registers memory ≡ (code_of bytes >>= λ code. Ok (granted, code))
      unfolding read_start policy_result policy_of ◌>>=◌ check
      by_code = rw (← passes, f, read_start)

      pub header_refused : (x : Refusal) → Err x ≡ read_header bytes → Promised (refusal_outcome x) registers memory
      unfolding code_of ◌>>=◌
      header_refused x e = stops x (by_code ∙ rw (← e, code_of))

      -- the code runs, or check 8 or 9 refuses
      pub code_runs : (header : Header) → Ok header ≡ read_header bytes → (r : Result Outcome Refusal) (registers' memory' : List ℕ)
          → CodeRuns bytes header (listed p.regions) registers memory budget r registers' memory' → Promised (outcome_of r) registers' memory'
      unfolding code_of policy_of run_of ◌>>=◌
      code_runs header e (Err x) registers' memory' (r, same_registers, same_memory) = rw (same_registers, same_memory) (stops x (by_code ∙ rw (← e, r, code_of)))
      code_runs header e (Ok o) registers' memory' (code, r, ran) =
          let words : length memory ≡ p.memory = eqb-true (length memory) p.memory ((and-eq-true_iff (eqb (length registers) register_count) (eqb (length memory) p.memory)).0 f).1 in
          let start : read_start policy_bytes bytes registers memory ≡ Ok (granted, code) = by_code ∙ rw (← e, r, code_of) in
          promise o registers' memory' (ran.run granted (record { words = sym words; granted = refl }) ∙ rw (start, run_of))
