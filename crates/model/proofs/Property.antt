-- Property 3: from each annotation and from the entry the machine returns within the credit, and so an accepted routine is safe. Assumes nothing.
use Prim.Native.Nat.{ℕ, ◌<◌, ◌^◌, ◌+◌, ◌%◌, zero, suc}
use mathlib.Core.List.{List, [], ◌∷◌, ◌++◌, map}
use mathlib.Core.Option.{some, none, Option}
use mathlib.Core.Path.{◌≡◌, refl, ap, ◌∙◌, sym, subst}
use native.Mathlib.Nat.{zero-add, add-zero, mod-lt, mod-eq_of_lt, lt-suc_self}
use native.Mathlib.Omega.{arith}
use lib.Dec.{lit<}
use lib.ListN.{length, get_or, get_or-append}
use lib.Seq.{get_or-append-add}
use borrow.Author.Tests.{eq-eqb}
use Rattle.model.specs.Annotation.{Annotation, annotation_at}
use Rattle.model.specs.Atom.{Atom, AllHold, registers_of}
use Rattle.model.specs.Goals.{register_variables, block_start, arrival, most_visits, follow, walk, entry_block, annotation_block, annotation_blocks, trace_of, finish}
use Rattle.model.specs.Machine.{State, start_of}
use Rattle.model.specs.Package.{code_of}
use Rattle.model.specs.Policy.{Policy, read_policy}
use Rattle.model.specs.Property.{Words, Returns, Property}
use Rattle.model.specs.Result.{◌>>=◌, check, found, Ok}
use Rattle.model.specs.Routine.{Routine, read_routine}
use Rattle.model.specs.Runner.{stopped, run_from, read_start, run_of}
use Rattle.model.specs.Term.{Term, eval, constant, variable}
use Rattle.model.specs.Verdict.{read_inputs, check_of}
use Rattle.model.specs.declared.Instruction.{Instruction}
use Rattle.model.proofs.Derivations.{judge_sound, sound_second, sound_first, Sound, sound_goals, answered_value, sound_blocks}
use Rattle.model.proofs.Formed.{FormedRoutine, found_at}
use Rattle.model.proofs.Gives.{Gives, gives, gives_next, gives_value}
use Rattle.model.proofs.Lists.{below_get, Every}
use Rattle.model.proofs.Paths.{loads, Matches, arrived_atoms, Ahead, arrived_credit}
use Rattle.model.proofs.Reading.{routine_formed, policy_formed}
use Rattle.model.proofs.Runs.{safe_rest, runs_enough, SafeRun, runs_ready, SafeBelow, runs_after, runs_spent}
use Rattle.model.proofs.Terms.{RegisterAtom, RegisterTerm, eval_same, WordEnv, hold_same}
use Rattle.model.proofs.Walk.{walk_safe}

-- ---- variables in a row

unfoldable variables_from : (first count : ℕ) → List Term
variables_from first zero = []
variables_from first (suc count) = variable first ∷ variables_from (first + 1) count

in_a_row : register_variables ≡ variables_from 0 16
unfolding variables_from
in_a_row = refl

row_values : (env : ℕ → ℕ) (first : ℕ) (l : List ℕ) → ((i : ℕ) → i < length l → env (first + i) ≡ get_or l i 0)
    → map (eval env) (variables_from first (length l)) ≡ l
unfolding variables_from eval
row_values env first [] h = refl
row_values env first (x ∷ l) h =
    let head : env first ≡ x = ap env (sym (add-zero first)) ∙ h 0 (omega arith) in
    let tail = row_values env (first + 1) l later in
    λ j. head j ∷ tail j
  where
    later : (i : ℕ) → i < length l → env (first + 1 + i) ≡ get_or l i 0
    later i b =
        let q : first + 1 + i ≡ first + suc i = omega arith in
        ap env q ∙ h (suc i) (omega arith)

-- ---- the environment of a block

module _ (policy : Policy) (code : List Instruction) (m : State) where
  -- what the machine loads in a block, at most
  abbrev block_loads : List ℕ
  block_loads = loads policy code most_visits m

  abbrev pub start_env : ℕ → ℕ
  start_env v = get_or (m.registers ++ block_loads) v 0 % 2 ^ 32

  pub start_word : WordEnv start_env
  unfolding WordEnv
  start_word v = mod-lt (get_or (m.registers ++ block_loads) v 0) (lit< tt)

  module _ (words : Words policy m.registers m.memory) where
    pub start_same : (v : ℕ) → v < 16 → start_env v ≡ registers_of m.registers v
    start_same v l =
        let first = get_or-append m.registers block_loads 0 v (omega (arith, words.register_count)) in
        ap (λ (x : ℕ). x % 2 ^ 32) first ∙ mod-eq_of_lt (below_get m.registers v words.register_words (lit< tt))

    pub start_matches : (index : ℕ) (atoms : List Atom) → m.counter ≡ index → Every RegisterAtom atoms → AllHold (registers_of m.registers) atoms
        → Matches policy start_env (block_start index atoms) m
    start_matches index atoms c rs h =
        record {
          counter = c;
          registers = row;
          assumed = hold_same (λ v l. sym (start_same v l)) atoms rs h;
          few = omega arith;
          words = words;
        }
      where
        row : map (eval start_env) register_variables ≡ m.registers
        row =
            ap (map (eval start_env)) (in_a_row ∙ ap (variables_from 0) (sym words.register_count))
            ∙ row_values start_env 0 m.registers (λ i b. ap start_env (zero-add i) ∙ start_same i (omega (arith, words.register_count)))

    pub start_ahead : Ahead policy code start_env most_visits 0 16 m
    start_ahead =
        record {
          room = omega arith;
          foretold = λ i.
              ap (λ (n : ℕ). start_env (n + i)) (sym words.register_count)
              ∙ ap (λ (x : ℕ). x % 2 ^ 32) (get_or-append-add m.registers block_loads i 0);
        }

-- ---- blocks

module _ (policy : Policy) (routine : Routine) (formed : FormedRoutine routine) where
  -- a block that starts in a state, with the annotations of a lower credit safe
  block_safe : (m : State) → Words policy m.registers m.memory
      → (atoms : List Atom) → Every RegisterAtom atoms → AllHold (registers_of m.registers) atoms
      → (credit : Term) → RegisterTerm credit → SafeBelow policy routine (eval (registers_of m.registers) credit)
      → Sound policy (walk policy routine credit most_visits (block_start m.counter atoms) [])
      → SafeRun policy routine.code 0 (eval (registers_of m.registers) credit) m
  block_safe m words atoms rs hold credit r lower sound =
      let code = routine.code in
      let env = start_env policy code m in
      let same : eval env credit ≡ eval (registers_of m.registers) credit = eval_same (start_same policy code m words) credit r in
      let walks = walk_safe policy routine formed env (start_word policy code m) credit (subst (SafeBelow policy routine) (sym same) lower) most_visits in
      subst (λ (c : ℕ). SafeRun policy code 0 c m) same
      ((walks (block_start m.counter atoms) [] sound).0 most_visits m (omega arith)
      (start_matches policy code m words m.counter atoms refl rs hold)
      (start_ahead policy code m words))

  module _ (sound : Sound policy (trace_of policy routine)) where
    entry_sound : Sound policy (entry_block policy routine)
    unfolding trace_of
    entry_sound = sound_first policy (entry_block policy routine) (annotation_blocks policy routine routine.annotations) sound

    blocks_sound : Every (λ (a : Annotation). Sound policy (annotation_block policy routine a)) routine.annotations
    unfolding trace_of
    blocks_sound =
        sound_blocks policy routine routine.annotations
        (sound_second policy (entry_block policy routine) (annotation_blocks policy routine routine.annotations) sound)

    -- By induction on a bound for the credit: a block that arrives at an annotation has run an instruction, so the credit there is lower.
    annotations_safe : (limit : ℕ) → SafeBelow policy routine limit
    unfolding annotation_block
    annotations_safe zero a m found words atoms l = absurd (omega arith)
    annotations_safe (suc limit) a m found words atoms l =
        let (fa, at) = found_at routine.annotations m.counter formed.annotations found in
        let block = (found_at routine.annotations m.counter blocks_sound found).0 in
        block_safe m words a.atoms fa.atoms atoms a.credit fa.credit
        (λ b u f w h k. annotations_safe limit b u f w h (omega arith))
        (subst (λ (i : ℕ). Sound policy (walk policy routine a.credit most_visits (block_start i a.atoms) [])) at block)

    module _ (pre : Every RegisterAtom policy.precondition) where
      -- "the block at 0 does [stop], with k = 0, if 0 is annotated": its start is followed
      entry_followed : Sound policy (follow policy routine (constant policy.limit) (walk policy routine (constant policy.limit) most_visits) (block_start 0 policy.precondition ∷ []))
      unfolding entry_block
      entry_followed = entry_sound

      pub entry_safe : (m : State) → m.counter ≡ 0 → Words policy m.registers m.memory → AllHold (registers_of m.registers) policy.precondition
          → SafeRun policy routine.code 0 policy.limit m
      unfolding follow eval RegisterTerm
      entry_safe m at words hold = safe_rest (omega arith) (go (annotation_at routine.annotations 0) refl)
        where
          credit : Term
          credit = constant policy.limit

          go : (o : Option Annotation) → annotation_at routine.annotations 0 ≡ o
              → SafeRun policy routine.code 0 (eval (registers_of m.registers) credit) m
          go none found =
              block_safe m words policy.precondition pre hold credit tt (annotations_safe _)
              (subst (λ (i : ℕ). Sound policy (walk policy routine credit most_visits (block_start i policy.precondition) [])) (sym at)
              (rw (found, follow) at entry_followed))
          go (some a) found =
              let matches = start_matches policy routine.code m words 0 policy.precondition at pre hold in
              let word_env = start_word policy routine.code m in
              let gs = sound_goals policy (arrival (block_start 0 policy.precondition) credit a) finish (rw (found, follow) at entry_followed) in
              let here = ap (annotation_at routine.annotations) at ∙ found in
              safe_rest (arrived_credit matches word_env credit a gs)
              (annotations_safe _ a m here words (arrived_atoms matches word_env credit a gs) (lt-suc_self _))

-- ---- the runner

module _ (policy_bytes package_bytes : List ℕ) {policy : Policy} {code : List Instruction}
    (policy_read : read_policy policy_bytes ≡ Ok policy) (code_read : code_of package_bytes ≡ Ok code)
    (registers memory : List ℕ) (words : Words policy registers memory) where
  -- the runner's checks pass
  start_read : read_start policy_bytes package_bytes registers memory ≡ Ok (policy, code)
  unfolding read_start ◌>>=◌ check
  start_read =
      rw (policy_read, eq-eqb (length registers) 16 words.register_count, eq-eqb (length memory) policy.memory words.memory_count, code_read)

  run_from_lem : (budget : ℕ) → run_of policy_bytes package_bytes registers memory budget ≡ run_from policy code budget 0 (start_of registers memory)
  unfolding run_of
  run_from_lem budget = rw (start_read, run_of)

  returns_of : SafeRun policy code 0 policy.limit (start_of registers memory) → Returns policy_bytes package_bytes policy code registers memory
  returns_of h =
      record {
        steps = h.steps;
        final = h.final;
        returns = runs_after policy code h.runs;
        within = rw zero-add at h.within;
        postcondition = h.postcondition;
        ready = runs_ready policy code h.runs;
        enough = λ budget l.
            let q = runs_enough policy code h.runs budget 0 l in
            run_from_lem budget ∙ q ∙ ap (λ (k : ℕ). stopped 0 k h.final) (zero-add h.steps);
        spent = λ budget l.
            let (s, a, q) = runs_spent policy code h.runs budget 0 l in
            (s, a, run_from_lem budget ∙ q ∙ ap (λ (k : ℕ). stopped 20 k s) (zero-add budget));
      }

-- ---- the theorem

inputs_read : (workspace : ℕ) (policy_bytes package_bytes : List ℕ)
    → Gives (λ (i : Policy × Routine). (read_policy policy_bytes ≡ Ok i.0) × (read_routine package_bytes ≡ Ok i.1))
    (read_inputs workspace policy_bytes package_bytes)
unfolding read_inputs
inputs_read workspace policy_bytes package_bytes = gives_next λ _ _. gives_next λ _ e. gives_next λ _ f. gives (e, f)

pub property : Property
unfolding Property check_of
property workspace policy_bytes package_bytes package_below e =
    let (inputs, passed, judged) = answered_value (read_inputs workspace policy_bytes package_bytes) 0 _ e in
    let (policy, routine) = inputs in
    let (policy_read, routine_read) = gives_value passed (inputs_read workspace policy_bytes package_bytes) in
    let (formed, code_read) = gives_value routine_read (routine_formed package_bytes package_below) in
    let (fit, pre) = gives_value policy_read (policy_formed policy_bytes) in
    let sound = judge_sound package_bytes policy fit (trace_of policy routine) routine.proof 0 judged in
    record {
      policy = policy;
      code = routine.code;
      policy_read = policy_read;
      code_read = code_read;
      runs = λ registers memory words hold.
          returns_of policy_bytes package_bytes policy_read code_read registers memory words
          (entry_safe policy routine formed sound pre (start_of registers memory) refl words hold);
    }
