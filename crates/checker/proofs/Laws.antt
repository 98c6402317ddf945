-- The ways out of the checker, from the readers' answers to the verdict that is defined. Assumes nothing.
use mathlib.Core.Path.{◌≡◌, refl, sym, ap, ◌∙◌}
use mathlib.Core.List.{List, [], ◌∷◌}
use Prim.Native.Nat.{ℕ, suc, ◌≤◌, ◌<◌, ◌^◌}
use lib.ListN.{length, get_or, replicate}
use borrow.Author.Tests.{le-leb, lt-leb}
use Rattle.model.specs.Result.{Result, Err, Ok, ◌>>=◌, check}
use Rattle.model.specs.Word.{AllBelow}
use Rattle.model.specs.Policy.{Policy, read_policy}
use Rattle.model.specs.Package.{read_header, read_code, proof_start}
use Rattle.model.specs.Annotation.{read_annotations}
use Rattle.model.specs.Routine.{Routine, read_routine}
use Rattle.model.specs.Goals.{trace_of}
use Rattle.model.specs.Verdict.{refusing, least_workspace, answered, judge, read_inputs, check_of, workspace_after}
use Rattle.model.specs.Property.{Safe, Property}
use Rattle.model.specs.declared.Header.{Header}
use Rattle.model.specs.declared.Instruction.{Instruction}
use Rattle.model.specs.declared.Refusal.{Refusal}
use Rattle.model.specs.declared.Refusal.TheVariants.{SmallWorkspace}
use Rattle.model.specs.declared.Verdict.{Verdict}
use Rattle.model.proofs.Property.{property}
use Rattle.refusals.specs.declared.Refused.{Refused}
use Rattle.policy.specs.declared.Policy as declared
use Rattle.policy.specs.Policy.{policy_of, policy_result}
use Rattle.routine.specs.Code.{code_checked}
use Rattle.routine.proofs.Facts.{checked_code}
use Rattle.annotations.specs.declared.reading.Annotated.{Annotated}
use Rattle.annotations.specs.Annotations.{annotations_at, with_terms, Tabled}
use Rattle.annotations.proofs.Facts.{annotations_passed, annotations_refused}
use Rattle.targets.specs.Targets.{TargetsMet}
use Rattle.setting.specs.declared.Setting.{Setting}
use Rattle.setting.specs.Setting.{Stands}
use Rattle.evaluation.specs.Blocks.{verdict_of}
use Rattle.checker.specs.Checks.{routine_verdict, routine_from, AnnotationsChecked}

-- what a check answers that refuses: no goal has been derived
abbrev early : Refusal → Result ℕ Refused
early x = Err (record { refusal = x; goals = 0 })

-- the verdict where reading a routine stops
refuses : (bytes : List ℕ) (policy : Policy) {m : Result Routine Refusal} (x : Refusal) → m ≡ Err x → verdict_of (early x) ≡ routine_verdict bytes policy m
unfolding verdict_of routine_verdict answered
refuses bytes policy x e = rw e

-- ---- checks 10, 11 and 12, and the evaluation

module _ (bytes : List ℕ) (policy : Policy) (h : Header) where
  pub annotations_stop : (x : Refusal) → with_terms bytes h (Err x) ≡ read_annotations bytes h → AnnotationsChecked bytes policy h (verdict_of (early x))
  unfolding routine_from ◌>>=◌
  annotations_stop x R = record { is = λ code read. refuses bytes policy x (rw (annotations_refused bytes h _ R x refl, routine_from)) }

  module _ (list : List Annotated) (R : with_terms bytes h (Ok list) ≡ read_annotations bytes h) (tabled : Tabled bytes h list) (t : Result (Unit {0}) Refusal) (T : TargetsMet bytes h list t) where
    -- the routine, if its targets pass
    abbrev routine_of : List Instruction → Routine
    routine_of code = record { code = code; annotations = annotations_at bytes h list; proof = proof_start h }

    past_annotations : (code : List Instruction) → read_code bytes h ≡ Ok code → routine_from bytes h code ≡ (t >>= λ _. Ok (routine_of code))
    unfolding routine_from ◌>>=◌
    past_annotations code read = rw (annotations_passed bytes h _ R list refl, ← T.is code (annotations_at bytes h list) read tabled.listed, routine_from)

    pub targets_stop : (x : Refusal) → t ≡ Err x → AnnotationsChecked bytes policy h (verdict_of (early x))
    unfolding ◌>>=◌
    targets_stop x f = record { is = λ code read. refuses bytes policy x (past_annotations code read ∙ rw f) }

-- the setting's routine, once its targets have passed
module _ (setting : Setting) (r : Result ℕ Refused) where
  abbrev bytes : List ℕ
  bytes = setting.tables.routine.bytes.now

  abbrev h : Header
  h = setting.tables.routine.header

  pub evaluated : ((policy : Policy) (routine : Routine) → Stands setting policy routine → verdict_of r ≡ judge bytes policy (trace_of policy routine) routine.proof 0)
      → with_terms bytes h (Ok setting.tables.annotations.now) ≡ read_annotations bytes h → Tabled bytes h setting.tables.annotations.now → {t : Result (Unit {0}) Refusal} → TargetsMet bytes h setting.tables.annotations.now t → t ≡ Ok tt
      → AnnotationsChecked bytes (policy_of setting.conditions.now setting.policy) h (verdict_of r)
  unfolding ◌>>=◌ routine_verdict answered
  evaluated E R tabled {t} T f =
      let policy = policy_of setting.conditions.now setting.policy in
      record {
        is = λ code c.
            let routine = routine_of bytes policy h setting.tables.annotations.now R tabled t T code in
            E policy routine (record { policy_is = refl; code_read = c; annotations_are = refl; proof_is = refl })
            ∙ rw (past_annotations bytes policy h setting.tables.annotations.now R tabled t T code c, f);
      }

-- ---- checks 7, 8 and 9

-- the routine of a package whose code has been read
reads : (bytes : List ℕ) (h : Header) (code : List Instruction) → Ok h ≡ read_header bytes → read_code bytes h ≡ Ok code → read_routine bytes ≡ routine_from bytes h code
unfolding read_routine routine_from ◌>>=◌
reads bytes h code e f = rw (← e, f, read_routine)

-- what the checks of the code say where they refuse it
refused_code : (m : Result (List Instruction) Refusal) (x : Refusal) → Err x ≡ code_checked m → m ≡ Err x
unfolding code_checked
refused_code (Err y) x e = cc
refused_code (Ok code) x e = absurd (cc)

module _ (bytes : List ℕ) (policy : Policy) where
  pub header_stop : (x : Refusal) → Err x ≡ read_header bytes → verdict_of (early x) ≡ routine_verdict bytes policy (read_routine bytes)
  unfolding read_routine ◌>>=◌
  header_stop x e = refuses bytes policy x (rw (← e, read_routine))

  module _ (h : Header) (e : Ok h ≡ read_header bytes) where
    pub code_stop : (x : Refusal) → Err x ≡ code_checked (read_code bytes h) → verdict_of (early x) ≡ routine_verdict bytes policy (read_routine bytes)
    unfolding read_routine ◌>>=◌
    code_stop x f = refuses bytes policy x (rw (← e, refused_code (read_code bytes h) x f, read_routine))

    pub annotations_checked : Ok tt ≡ code_checked (read_code bytes h) → (r : Verdict) → AnnotationsChecked bytes policy h r → r ≡ routine_verdict bytes policy (read_routine bytes)
    annotations_checked f r S =
        let k = checked_code (read_code bytes h) f in
        S.is k.0 k.1 ∙ ap (λ (m : Result Routine Refusal). routine_verdict bytes policy m) (sym (reads bytes h k.0 e k.1))

-- ---- checks 3 to 6

-- the verdict on a routine is the checker's, once the workspace and the policy have passed
inputs : (words : ℕ) → least_workspace ≤ words → (policy_bytes bytes : List ℕ) (policy : Policy) → Ok policy ≡ read_policy policy_bytes → (m : Result Routine Refusal) → read_routine bytes ≡ m
    → routine_verdict bytes policy m ≡ check_of words policy_bytes bytes
unfolding routine_verdict check_of answered read_inputs ◌>>=◌ check
inputs words room policy_bytes bytes policy p (Err x) e = rw (le-leb least_workspace words room, ← p, e, read_inputs, check_of)
inputs words room policy_bytes bytes policy p (Ok routine) e = rw (le-leb least_workspace words room, ← p, e, read_inputs, check_of)

module _ (words : ℕ) (room : least_workspace ≤ words) (policy_bytes bytes : List ℕ) where
  pub policy_stop : (x : Refusal) → policy_result policy_bytes (Err x) ≡ read_policy policy_bytes → verdict_of (early x) ≡ check_of words policy_bytes bytes
  unfolding verdict_of policy_result check_of answered read_inputs ◌>>=◌ check
  policy_stop x e = rw (le-leb least_workspace words room, ← e, read_inputs, check_of)

  pub package_checked : (read : declared.Policy) → policy_result policy_bytes (Ok read) ≡ read_policy policy_bytes → (r : Verdict)
      → r ≡ routine_verdict bytes (policy_of policy_bytes read) (read_routine bytes) → r ≡ check_of words policy_bytes bytes
  unfolding policy_result
  package_checked read e r o = o ∙ inputs words room policy_bytes bytes (policy_of policy_bytes read) e (read_routine bytes) refl

-- ---- check 1

-- bytes are below 2^8
all_below : (bound : ℕ) (l : List ℕ) → ((k : ℕ) → get_or l k 0 < bound) → AllBelow bound l
unfolding AllBelow
all_below bound [] h = tt
all_below bound (x ∷ l) h = (h 0, all_below bound l (λ k. h (suc k)))

module _ (workspace policy_bytes bytes : List ℕ) (small : (k : ℕ) → get_or bytes k 0 < 2 ^ 8) (r : Verdict) where
  -- the verdict, the workspace left, and property 3
  abbrev Promised : List ℕ → Type 0
  Promised left = (r ≡ check_of (length workspace) policy_bytes bytes) × ((left ≡ workspace_after workspace) × (r.number ≡ 0 → Safe policy_bytes bytes))

  promise : (left : List ℕ) → r ≡ check_of (length workspace) policy_bytes bytes → left ≡ workspace_after workspace → Promised left
  unfolding Property
  promise left e l = (e, (l, λ z. property (length workspace) policy_bytes bytes (all_below (2 ^ 8) bytes small) (ap (λ (v : Verdict). v.number) (sym e) ∙ z)))

  pub workspace_small : length workspace < least_workspace → r ≡ refusing SmallWorkspace 0 → Promised workspace
  unfolding check_of answered read_inputs ◌>>=◌ check workspace_after
  workspace_small s o = promise workspace (o ∙ rw (lt-leb least_workspace (length workspace) s, read_inputs, check_of)) (rw (lt-leb least_workspace (length workspace) s, workspace_after))

  pub checked : least_workspace ≤ length workspace → r ≡ check_of (length workspace) policy_bytes bytes → (words left : List ℕ) → length words ≡ length workspace → left ≡ replicate (length words) 0 → Promised left
  unfolding workspace_after
  checked room o words left long z = promise left o (z ∙ rw (le-leb least_workspace (length workspace) room, long, workspace_after))
