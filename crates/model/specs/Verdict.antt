-- The checker's answer, and the workspace that it leaves. Assumes nothing.
use Rattle.std.specs.Prelude.{ℕ, ◌+◌, true, false, List, length, replicate, leb, eqb}
use Rattle.model.specs.Result.{Result, Err, Ok, ◌>>=◌, check}
use Rattle.model.specs.Refusal.{number_of, place_of}
use Rattle.model.specs.Policy.{Policy, read_policy}
use Rattle.model.specs.Routine.{Routine, read_routine}
use Rattle.model.specs.Goals.{Trace, goal, finish, refuse, trace_of}
use Rattle.model.specs.Derivation.{most_levels, derive}
use Rattle.model.specs.declared.Verdict.{Verdict}
use Rattle.model.specs.declared.Refusal.{Refusal}
use Rattle.model.specs.declared.Refusal.TheVariants.{SmallWorkspace, ProofLeft}

-- "number, place, goals fully derived by then"
abbrev pub verdict : (number place goals : ℕ) → Verdict
verdict number place goals = record { number = number; place = place; goals = goals }

abbrev pub refusing : Refusal → (goals : ℕ) → Verdict
refusing r goals = verdict (number_of r) (place_of r) goals

-- "workspace under 16,384 words"
abbrev pub least_workspace : ℕ
least_workspace = 16384

-- the refusal as an answer, or what the value leads to; `derived` goals so far
unfoldable pub answered : {A : Type 0} → Result A Refusal → (derived : ℕ) → (A → Verdict) → Verdict
answered (Err r) derived k = refusing r derived
answered (Ok a) derived k = k a

-- Each goal of the trace is derived as it arises, from position p on, `derived` of them so far.
-- "Last, 19: proof bytes left (first)"; "0 is accepted, place 0"
unfoldable pub judge : (bytes : List ℕ) → Policy → Trace → (p derived : ℕ) → Verdict
judge bytes policy (goal g rest) p derived =
    answered (derive bytes policy g most_levels g.claim p) derived (λ q. judge bytes policy rest q (derived + 1))
judge bytes policy finish p derived = elim (eqb p (length bytes)) [ true ↦ verdict 0 0 derived | false ↦ refusing (ProofLeft p) derived ]
judge bytes policy (refuse r) p derived = refusing r derived

-- checks 1 to 12
unfoldable pub read_inputs : (workspace : ℕ) (policy_bytes package_bytes : List ℕ) → Result (Policy × Routine) Refusal
read_inputs workspace policy_bytes package_bytes = do
  _ ← check (leb least_workspace workspace) (SmallWorkspace)
  policy ← read_policy policy_bytes
  routine ← read_routine package_bytes
  Ok (policy, routine)

-- the answer for a workspace of so many words
unfoldable pub check_of : (workspace : ℕ) (policy_bytes package_bytes : List ℕ) → Verdict
check_of workspace policy_bytes package_bytes =
    answered (read_inputs workspace policy_bytes package_bytes) 0 (λ inputs.
    judge package_bytes inputs.0 (trace_of inputs.0 inputs.1) inputs.1.proof 0)

-- "It leaves the workspace all zero; after 1, untouched."
unfoldable pub workspace_after : List ℕ → List ℕ
workspace_after workspace = elim (leb least_workspace (length workspace)) [ true ↦ replicate (length workspace) 0 | false ↦ workspace ]
