-- A block: a path whose goals hold leads the machine to its return, or to an annotation from which it returns. Assumes nothing.
use Prim.Native.Nat.{ℕ, ◌≤◌, ◌<◌, ◌^◌, ◌+◌, zero, suc}
use mathlib.Core.Bool.{Bool, true, false}
use mathlib.Core.List.{List, [], ◌∷◌, ◌++◌}
use mathlib.Core.Option.{some, none, Option}
use mathlib.Core.Path.{◌≡◌, refl, ap, ◌∙◌, ap₂}
use native.Mathlib.Nat.{mod-eq_of_lt}
use native.Mathlib.Omega.{arith}
use lib.Dec.{eqb, ltb, lit<}
use lib.ListN.{get_elem?, get_or}
use borrow.Author.Tests.{ltb-true, ltb-false, eqb-true, eqb-false}
use Rattle.model.specs.Annotation.{Annotation, annotation_at}
use Rattle.model.specs.Atom.{Atom, Compares, holds, Holds}
use Rattle.model.specs.Goals.{Path, Trace, term_of, address_term, goal_of, path_to, onward, assuming, assigning, loading, arrival, returning, Move, small_enough, assign, branch, move, most_visits, follow, tracing, evaluating, walk, readable, writable, refuse, goes, refused}
use Rattle.model.specs.Machine.{State, word, address, assigned, stored, jumped, branched, permitted, execute, step, next}
use Rattle.model.specs.Policy.{Policy}
use Rattle.model.specs.Property.{Permitted, Ready}
use Rattle.model.specs.Result.{found}
use Rattle.model.specs.Routine.{Routine}
use Rattle.model.specs.Term.{Term, eval, constant, variable, sum, difference, mask, shift}
use Rattle.model.specs.Word.{add_w, sub_w, mask_w, shift_w}
use Rattle.model.specs.declared.Instruction.{Instruction}
use Rattle.model.specs.declared.Instruction.TheVariants.{Set, Add, AddImmediate, Subtract, Load, Store, Jump, JumpLess, JumpEqual, Return, Mask, Shift}
use Rattle.model.specs.declared.Refusal.TheVariants.{LongBlock}
use Rattle.model.proofs.Derivations.{GoalHolds, Sound, sound_goals, sound_rest}
use Rattle.model.proofs.Formed.{FormedRoutine, WordInstruction}
use Rattle.model.proofs.Lists.{every_at, below_get, every_head, every_tail, every_left, every_right, every_map, Every, empty, ◌&◌, inside_get}
use Rattle.model.proofs.Paths.{jumped_matches, assuming_matches, load_value, stored_matches, Matches, arrived_atoms, register_value, loaded_by, writable_here, Ahead, readable_here, ahead_next, ahead_load, returned_atoms, returned_credit, address_value, assigned_matches, arrived_credit}
use Rattle.model.proofs.Runs.{safe_rest, safe_step, step_execute, SafeRun, last, SafeBelow}
use Rattle.model.proofs.Terms.{eval_word, WordEnv}

-- A block in an environment; the annotations of a lower credit are safe.
module _ (policy : Policy) (routine : Routine) (formed : FormedRoutine routine)
    (env : ℕ → ℕ) (word_env : WordEnv env) (credit : Term) (lower : SafeBelow policy routine (eval env credit)) where
  -- the path's steps are used up, of the block's credit
  abbrev SafeFrom : Path → State → Type 0
  SafeFrom s m = SafeRun policy routine.code s.steps (eval env credit) m

  abbrev AheadOf : ℕ → Path → State → Type 0
  AheadOf left s m = Ahead policy routine.code env left s.steps s.variables m

  -- A path that is walked with so many instructions yet to be evaluated: every state that it matches is safe. The machine follows one path
  -- of the block, so that no more steps than those need be foreseen.
  abbrev pub Safe : (visits : ℕ) → Path → Type 0
  Safe visits s = (left : ℕ) (m : State) → visits ≤ left → Matches policy env s m → AheadOf left s m → SafeFrom s m

  -- the same of a path that an instruction has led to
  abbrev Onward : (visits : ℕ) → Path → Type 0
  Onward visits s = 1 ≤ s.steps → Safe visits s

  -- the goals of a move hold, and its paths are safe
  abbrev Led : (visits : ℕ) → Move → Type 0
  Led visits (goes gs paths) = Every (GoalHolds policy) gs × Every (Onward visits) paths
  Led visits (refused r) = ⊥

  -- ---- one instruction

  module _ {visits left : ℕ} {s : Path} {m : State} (more : visits ≤ left) (h : Matches policy env s m) (ahead : AheadOf (suc left) s m) where
    room : s.steps + 1 ≤ most_visits
    room = omega (arith, ahead.room)

    module _ (instruction : Instruction) (fetched : get_elem? routine.code m.counter ≡ some instruction) where
      ready : Permitted policy m instruction → Ready policy routine.code m
      ready p =
          record {
            inside = inside_get routine.code m.counter fetched;
            instruction = instruction;
            fetched = fetched;
            permitted = p;
            words = h.words;
          }

      stepped : {u : State} → execute policy m instruction ≡ next u → step policy routine.code m ≡ next u
      stepped e = step_execute policy routine.code m fetched ∙ e

      -- the instructions that are no load
      module _ (unloaded : loaded_by m instruction ≡ []) (allowed : Permitted policy m instruction) where
        goes_on : (t : Path) (u : State) → execute policy m instruction ≡ next u → Matches policy env t u
            → t.steps ≡ s.steps + 1 → t.variables ≡ s.variables → Onward visits t → SafeFrom s m
        goes_on t u e ht k v safe =
            let at = ahead_next policy routine.code ahead u instruction fetched (stepped e) unloaded in
            safe_step (ready allowed) (stepped e) (rw k at (safe (omega arith) left u more ht (rw (k, v) at)))

        assigns : (d : ℕ) (t : Term) (w : ℕ) → eval env t ≡ w → w < 2 ^ 32 → execute policy m instruction ≡ next (assigned m d w)
            → (b : Bool) → Led visits (small_enough b s.counter (onward (assigning s d t))) → SafeFrom s m
        unfolding small_enough
        assigns d t w worth word_value e true q =
            let ht = assigned_matches h room s.variables d t w worth word_value in
            goes_on (onward (assigning s d t)) (assigned m d w) e ht refl refl (every_head q.1)
        assigns d t w worth word_value e false q = absurd q

        -- each edge assumes what the test has shown
        module _ (target : ℕ) (taken opposite : Atom) where
          branches : (test : Bool) → (test ≡ true → Holds env taken) → (test ≡ false → Holds env opposite)
              → execute policy m instruction ≡ next (branched m test target) → Led visits (branch s target taken opposite) → SafeFrom s m
          unfolding branch
          branches true holds fails e q =
              let ht = assuming_matches (jumped_matches h room target target refl) taken (holds refl) in
              goes_on (assuming (path_to s target) taken) (jumped m target) e ht refl refl (every_head q.1)
          branches false holds fails e q =
              let i = m.counter + 1 in
              let ht = assuming_matches (jumped_matches h room i (s.counter + 1) (ap (λ (c : ℕ). c + 1) h.counter)) opposite (fails refl) in
              goes_on (assuming (onward s) opposite) (jumped m i) e ht refl refl (every_head (every_tail q.1))

    load_safe : (d a i : ℕ) → get_elem? routine.code m.counter ≡ some (Load d a i)
        → Led visits (goes (goal_of s (readable (address_term s a i)) ∷ []) (onward (loading s d) ∷ [])) → SafeFrom s m
    unfolding execute Permitted loaded_by eval
    load_safe d a i f q =
        let x = get_or m.memory (address m a i) 0 in
        let u = assigned m d x in
        let right = readable_here h word_env a i (every_head q.0) in
        let e : step policy routine.code m ≡ next u = stepped (Load d a i) f (ap (λ (b : Bool). permitted b u) right) in
        let at = ahead_load policy routine.code ahead u (Load d a i) f e x refl in
        let word_loaded = below_get m.memory (address m a i) h.words.memory_words (lit< tt) in
        let worth = load_value policy routine.code ahead u (Load d a i) f e x refl ∙ mod-eq_of_lt word_loaded in
        let ht = assigned_matches h room (s.variables + 1) d (variable s.variables) x worth word_loaded in
        safe_step (ready (Load d a i) f right) e (every_head q.1 (omega arith) left u more ht at)

    store_safe : (d a i : ℕ) → get_elem? routine.code m.counter ≡ some (Store d a i)
        → Led visits (goes (goal_of s (writable (address_term s a i)) ∷ []) (onward s ∷ [])) → SafeFrom s m
    unfolding execute Permitted loaded_by
    store_safe d a i f q =
        let u = stored m (address m a i) (word m d) in
        let right = writable_here h word_env a i (every_head q.0) in
        let word_stored = below_get m.registers d h.words.register_words (lit< tt) in
        let ht = stored_matches h room (address m a i) (word m d) word_stored in
        goes_on (Store d a i) f refl right (onward s) u (ap (λ (b : Bool). permitted b u) right) ht refl refl (every_head q.1)

    return_safe : get_elem? routine.code m.counter ≡ some Return → Every (GoalHolds policy) (returning s credit policy.postcondition) → SafeFrom s m
    unfolding execute Permitted
    return_safe f gs =
        record {
          steps = 1;
          final = m;
          runs = last (ready Return f tt) (step_execute policy routine.code m f);
          within = returned_credit h word_env credit gs room;
          postcondition = returned_atoms h word_env credit gs;
        }

    instruction_safe : (instruction : Instruction) → get_elem? routine.code m.counter ≡ some instruction → WordInstruction instruction
        → Led visits (move policy credit s instruction) → SafeFrom s m
    unfolding move assign execute loaded_by Permitted WordInstruction eval Holds Compares
    instruction_safe (Set d i) f w q = assigns (Set d i) f refl tt d (constant i) i (mod-eq_of_lt w) w refl _ q
    instruction_safe (Add d a b) f w q =
        let t = sum (term_of s a) (term_of s b) in
        let worth = ap₂ add_w (register_value h a) (register_value h b) in
        assigns (Add d a b) f refl tt d t _ worth (rw worth at (eval_word env t word_env)) refl _ q
    instruction_safe (AddImmediate d a i) f w q =
        let t = address_term s a i in
        assigns (AddImmediate d a i) f refl tt d t _ (address_value h a i) (rw (address_value h a i) at (eval_word env t word_env)) refl _ q
    instruction_safe (Subtract d a b) f w q =
        let t = difference (term_of s a) (term_of s b) in
        let worth = ap₂ sub_w (register_value h a) (register_value h b) in
        assigns (Subtract d a b) f refl tt d t _ worth (rw worth at (eval_word env t word_env)) refl _ q
    instruction_safe (Load d a i) f w q = load_safe d a i f q
    instruction_safe (Store d a i) f w q = store_safe d a i f q
    instruction_safe (Jump i) f w q =
        goes_on (Jump i) f refl tt (path_to s i) (jumped m i) refl (jumped_matches h room i i refl) refl refl (every_head q.1)
    instruction_safe (JumpLess a b i) f w q =
        branches (JumpLess a b i) f refl tt i _ _ (ltb (word m a) (word m b))
        (λ t. rw (register_value h a, register_value h b) (ltb-true (word m a) (word m b) t))
        (λ t. rw (register_value h a, register_value h b) (ltb-false (word m a) (word m b) t))
        refl q
    instruction_safe (JumpEqual a b i) f w q =
        branches (JumpEqual a b i) f refl tt i _ _ (eqb (word m a) (word m b))
        (λ t. rw (register_value h a, register_value h b) (eqb-true (word m a) (word m b) t))
        (λ t. rw (register_value h a, register_value h b) (eqb-false (word m a) (word m b) t))
        refl q
    instruction_safe Return f w q = return_safe f q.0
    instruction_safe (Mask d a i) f w q =
        let t = mask (term_of s a) (constant i) in
        let worth = ap₂ mask_w (register_value h a) (mod-eq_of_lt w) in
        assigns (Mask d a i) f refl tt d t _ worth (rw worth at (eval_word env t word_env)) refl _ q
    instruction_safe (Shift d a i) f w q =
        let t = shift i (term_of s a) in
        let worth = ap (shift_w i) (register_value h a) in
        assigns (Shift d a i) f refl tt d t _ worth (rw worth at (eval_word env t word_env)) refl _ q

  evaluated_safe : (visits : ℕ) (s : Path) (instruction : Instruction) → get_elem? routine.code s.counter ≡ some instruction
      → Led visits (move policy credit s instruction) → Safe (suc visits) s
  evaluated_safe visits s instruction f q zero m more h ahead = absurd (omega arith)
  evaluated_safe visits s instruction f q (suc left) m more h ahead =
      let fetched : get_elem? routine.code m.counter ≡ some instruction = rw h.counter f in
      instruction_safe {visits = visits} (omega arith) h ahead instruction fetched (every_at m.counter formed.code fetched) q

  -- ---- the walk

  arrive : {s : Path} {m : State} → Matches policy env s m → 1 ≤ s.steps
      → (a : Annotation) → annotation_at routine.annotations s.counter ≡ some a → Every (GoalHolds policy) (arrival s credit a) → SafeFrom s m
  arrive {m = m} h l a found gs =
      let enough = arrived_credit h word_env credit a gs in
      let here = ap (annotation_at routine.annotations) h.counter ∙ found in
      safe_rest enough (lower a m here h.words (arrived_atoms h word_env credit a gs) (omega arith))

  -- by `walk visits`, the path is safe, and so are those that are pending
  abbrev pub WalkSafe : (visits : ℕ) → Type 0
  WalkSafe visits = (s : Path) (pending : List Path) → Sound policy (walk policy routine credit visits s pending) → Safe visits s × Every (Onward visits) pending

  module _ {visits : ℕ} (walks : WalkSafe visits) where
    follow_safe : (paths : List Path) → Sound policy (follow policy routine credit (λ t rest. walk policy routine credit visits t rest) paths)
        → Every (Onward visits) paths
    unfolding follow
    follow_safe [] q = empty
    follow_safe (s ∷ pending) q = go (annotation_at routine.annotations s.counter) refl (follow_safe pending)
      where
        go : (o : Option Annotation) → annotation_at routine.annotations s.counter ≡ o
            → (Sound policy (follow policy routine credit (λ t rest. walk policy routine credit visits t rest) pending) → Every (Onward visits) pending)
            → Every (Onward visits) (s ∷ pending)
        go none e later = let (safe, each) = walks s pending (rw (e, follow) at q) in (λ _. safe) & each
        go (some a) e later =
            let sound = rw (e, follow) at q in
            (λ l left m more h ahead. arrive h l a e (sound_goals policy (arrival s credit a) _ sound)) & later (sound_rest policy (arrival s credit a) _ sound)

    moved_safe : (pending : List Path) (move : Move)
        → Sound policy (tracing policy routine credit (λ t rest. walk policy routine credit visits t rest) pending move)
        → Led visits move × Every (Onward visits) pending
    unfolding tracing Sound
    moved_safe pending (goes gs paths) q =
        let each = follow_safe (paths ++ pending) (sound_rest policy gs _ q) in
        ((sound_goals policy gs _ q, every_left paths pending each), every_right paths pending each)
    moved_safe pending (refused r) q = absurd q

  pub walk_safe : (visits : ℕ) → WalkSafe visits
  unfolding walk evaluating Sound
  walk_safe zero s pending q = absurd (go (get_elem? routine.code s.counter) q)
    where
      go : (o : Option Instruction) → Sound policy (evaluating policy routine credit (λ _. refuse (LongBlock s.counter)) o) → ⊥
      go none q = q
      go (some instruction) q = q
  walk_safe (suc visits) s pending q = go (get_elem? routine.code s.counter) refl (moved_safe (walk_safe visits)) q
    where
      walks : Path → List Path → Trace
      walks t rest = walk policy routine credit visits t rest

      go : (o : Option Instruction) → get_elem? routine.code s.counter ≡ o
          → ((pending : List Path) (move : Move) → Sound policy (tracing policy routine credit walks pending move) → Led visits move × Every (Onward visits) pending)
          → Sound policy (evaluating policy routine credit (λ instruction. tracing policy routine credit walks pending (move policy credit s instruction)) o)
          → Safe (suc visits) s × Every (Onward (suc visits)) pending
      go none e moved q = absurd q
      go (some instruction) e moved q =
          let (led, each) = moved pending (move policy credit s instruction) q in
          (evaluated_safe visits s instruction e led, every_map (λ _ safe l left m more. safe l left m (omega arith)) each)
