-- A path of symbolic evaluation that matches a state of the machine: what its goals say there, how the match goes on, and what the machine will load. Assumes nothing.
use Prim.Native.Nat.{ℕ, ◌≤◌, ◌<◌, ◌^◌, ◌+◌, ◌%◌, zero, suc}
use mathlib.Core.Bool.{true}
use mathlib.Core.List.{List, [], ◌∷◌, ◌++◌, map}
use mathlib.Core.Option.{some, none}
use mathlib.Core.Path.{◌≡◌, ap, ◌∙◌, sym, subst}
use native.Mathlib.Nat.{add-zero, mod-eq_of_lt}
use native.Mathlib.Omega.{arith}
use lib.ListN.{get_elem?, get_or, set, length-set, get_or-map}
use Rattle.model.specs.Annotation.{Annotation}
use Rattle.model.specs.Atom.{Atom, at_most, Compares, Holds, AllHold, registers_of}
use Rattle.model.specs.Goals.{Path, term_of, address_term, goal_of, path_to, onward, assuming, atom_goals, arrival, returning, most_visits, atom, readable, writable}
use Rattle.model.specs.Machine.{State, word, address, assigned, stored, jumped, step, next, returns, without_right, past_end}
use Rattle.model.specs.Policy.{Policy, readable_word, writable_word}
use Rattle.model.specs.Property.{Words}
use Rattle.model.specs.Term.{Term, eval, substitute, constant, difference}
use Rattle.model.specs.Word.{add_w}
use Rattle.model.specs.declared.Instruction.{Instruction}
use Rattle.model.specs.declared.Instruction.TheVariants.{Set, Add, AddImmediate, Subtract, Load, Store, Jump, JumpLess, JumpEqual, Return, Mask, Shift}
use Rattle.model.proofs.Derivations.{GoalHolds}
use Rattle.model.proofs.Lists.{map_set, every_right, every_left, every_tail, every_head, Every, below_set, ◌&◌}
use Rattle.model.proofs.Rules.{ClaimHolds}
use Rattle.model.proofs.Terms.{holds_substitute, eval_word, hold_snoc, WordEnv, eval_substitute}
use Rattle.model.proofs.Words.{sub_w_exact, add_w_constant}

-- Each register holds the value of its term, and the path's assumptions are true.
pub record Matches (policy : Policy) (env : ℕ → ℕ) (s : Path) (m : State) : Type 0 where
  pub counter : m.counter ≡ s.counter
  pub registers : map (eval env) s.registers ≡ m.registers
  pub assumed : AllHold env s.assumptions
  pub few : s.steps ≤ most_visits
  pub words : Words policy m.registers m.memory

module _ {policy : Policy} {env : ℕ → ℕ} {s : Path} {m : State} (h : Matches policy env s m) where
  -- ---- values

  pub register_value : (r : ℕ) → eval env (term_of s r) ≡ word m r
  unfolding eval
  register_value r = sym (get_or-map (eval env) s.registers r (constant 0)) ∙ ap (λ (l : List ℕ). get_or l r 0) h.registers

  pub address_value : (a i : ℕ) → eval env (address_term s a i) ≡ address m a i
  unfolding eval
  address_value a i = add_w_constant (eval env (term_of s a)) i ∙ ap (λ (x : ℕ). add_w x i) (register_value a)

  -- ---- the goals on the path

  module _ (word_env : WordEnv env) where
    -- a load or a store has the right to the machine's address
    pub readable_here : (a i : ℕ) → GoalHolds policy (goal_of s (readable (address_term s a i))) → readable_word policy (address m a i) ≡ true
    unfolding ClaimHolds
    readable_here a i g = ap (readable_word policy) (sym (address_value a i)) ∙ g env word_env h.assumed

    pub writable_here : (a i : ℕ) → GoalHolds policy (goal_of s (writable (address_term s a i))) → writable_word policy (address m a i) ≡ true
    unfolding ClaimHolds
    writable_here a i g = ap (writable_word policy) (sym (address_value a i)) ∙ g env word_env h.assumed

    -- an atom over current terms is the atom over the machine's registers
    atoms_hold : (atoms : List Atom) → Every (GoalHolds policy) (atom_goals s atoms) → AllHold (registers_of m.registers) atoms
    unfolding AllHold ClaimHolds
    atoms_hold [] gs = tt
    atoms_hold (a ∷ atoms) (g & gs) =
        let here = holds_substitute env s.registers a (g env word_env h.assumed) in
        (subst (λ (l : List ℕ). Holds (registers_of l) a) h.registers here, atoms_hold atoms gs)

    module _ (credit : Term) where
      enough : (k : ℕ) → k ≤ most_visits → GoalHolds policy (goal_of s (atom (at_most (constant k) credit))) → k ≤ eval env credit
      unfolding ClaimHolds Holds Compares eval
      enough k l g =
          let wrapped : k % 2 ^ 32 ≤ eval env credit = g env word_env h.assumed in
          omega arith

      -- "its credit at most the difference C - k": taken over whole numbers, since k is at most C
      lower : (t : Term) → s.steps ≤ eval env credit
          → GoalHolds policy (goal_of s (atom (at_most (substitute s.registers t) (difference credit (constant s.steps)))))
          → s.steps + eval (registers_of m.registers) t ≤ eval env credit
      unfolding ClaimHolds Holds Compares eval
      lower t l g =
          let small : s.steps % 2 ^ 32 ≡ s.steps = mod-eq_of_lt (omega (arith, h.few)) in
          let wrapped = g env word_env h.assumed in
          let exact = sub_w_exact (eval_word env credit word_env) l in
          let over = eval_substitute env s.registers t in
          let here = subst (λ (l : List ℕ). eval env (substitute s.registers t) ≡ eval (registers_of l) t) h.registers over in
          omega (arith, rw small at wrapped)

      pub arrived_atoms : (a : Annotation) → Every (GoalHolds policy) (arrival s credit a) → AllHold (registers_of m.registers) a.atoms
      unfolding arrival
      arrived_atoms a gs = atoms_hold a.atoms (every_left (atom_goals s a.atoms) _ gs)

      pub arrived_credit : (a : Annotation) → Every (GoalHolds policy) (arrival s credit a)
          → s.steps + eval (registers_of m.registers) a.credit ≤ eval env credit
      unfolding arrival
      arrived_credit a gs =
          let credits = every_right (atom_goals s a.atoms) _ gs in
          lower a.credit (enough s.steps h.few (every_head credits)) (every_head (every_tail credits))

      module _ (gs : Every (GoalHolds policy) (returning s credit policy.postcondition)) where
        pub returned_atoms : AllHold (registers_of m.registers) policy.postcondition
        unfolding returning
        returned_atoms = atoms_hold policy.postcondition (every_left (atom_goals s policy.postcondition) _ gs)

        pub returned_credit : s.steps + 1 ≤ most_visits → s.steps + 1 ≤ eval env credit
        unfolding returning
        returned_credit l = enough (s.steps + 1) l (every_head (every_right (atom_goals s policy.postcondition) _ gs))

  -- ---- how the match goes on

  module _ (room : s.steps + 1 ≤ most_visits) where
    -- an assignment of a term's value, whatever variables there are then
    pub assigned_matches : (variables d : ℕ) (t : Term) (w : ℕ) → eval env t ≡ w → w < 2 ^ 32
        → Matches policy env
        (record { counter = s.counter + 1; steps = s.steps + 1; registers = set s.registers d t; variables = variables; assumptions = s.assumptions })
        (assigned m d w)
    assigned_matches variables d t w worth word_value =
        record {
          counter = ap (λ (c : ℕ). c + 1) h.counter;
          registers = map_set (eval env) s.registers d t ∙ (λ j. set (h.registers j) d (worth j));
          assumed = h.assumed;
          few = room;
          words = record {
            register_count = length-set m.registers d w ∙ h.words.register_count;
            register_words = below_set m.registers d h.words.register_words word_value;
            memory_count = h.words.memory_count;
            memory_words = h.words.memory_words;
          };
        }

    pub stored_matches : (a w : ℕ) → w < 2 ^ 32 → Matches policy env (onward s) (stored m a w)
    stored_matches a w l =
        record {
          counter = ap (λ (c : ℕ). c + 1) h.counter;
          registers = h.registers;
          assumed = h.assumed;
          few = room;
          words = record {
            register_count = h.words.register_count;
            register_words = h.words.register_words;
            memory_count = length-set m.memory a w ∙ h.words.memory_count;
            memory_words = below_set m.memory a h.words.memory_words l;
          };
        }

    pub jumped_matches : (i j : ℕ) → i ≡ j → Matches policy env (path_to s j) (jumped m i)
    jumped_matches i j e = record { counter = e; registers = h.registers; assumed = h.assumed; few = room; words = h.words }

  pub assuming_matches : (a : Atom) → Holds env a → Matches policy env (assuming s a) m
  assuming_matches a p =
      record {
        counter = h.counter;
        registers = h.registers;
        assumed = hold_snoc env s.assumptions a h.assumed p;
        few = h.few;
        words = h.words;
      }

-- ---- the rest of a block

-- the value that an instruction loads, if it is a load
unfoldable pub loaded_by : State → Instruction → List ℕ
loaded_by m (Set d i) = []
loaded_by m (Add d a b) = []
loaded_by m (AddImmediate d a i) = []
loaded_by m (Subtract d a b) = []
loaded_by m (Load d a i) = get_or m.memory (address m a i) 0 ∷ []
loaded_by m (Store d a i) = []
loaded_by m (Jump i) = []
loaded_by m (JumpLess a b i) = []
loaded_by m (JumpEqual a b i) = []
loaded_by m Return = []
loaded_by m (Mask d a i) = []
loaded_by m (Shift d a i) = []

module _ (policy : Policy) (code : List Instruction) where
  -- what the machine loads within so many steps: the values of the block's further variables, known before it runs
  unfoldable pub loads : ℕ → State → List ℕ
  loads zero m = []
  loads (suc left) m =
      elim (step policy code m) [
        | next u ↦ elim (get_elem? code m.counter) [ none ↦ [] | some instruction ↦ loaded_by m instruction ] ++ loads left u
        | returns ↦ []
        | without_right ↦ []
        | past_end ↦ []
      ]

  pub loads_next : (left : ℕ) (m u : State) {instruction : Instruction} → get_elem? code m.counter ≡ some instruction → step policy code m ≡ next u
      → loads (suc left) m ≡ loaded_by m instruction ++ loads left u
  unfolding loads
  loads_next left m u f e = rw (e, f, loads)

  -- With so many steps foreseen, a path after so many steps, with so many variables: each further variable is what the machine will load.
  pub record Ahead (env : ℕ → ℕ) (left steps variables : ℕ) (m : State) : Type 0 where
    pub room : steps + left ≤ most_visits
    pub foretold : (i : ℕ) → env (variables + i) ≡ get_or (loads left m) i 0 % 2 ^ 32

  -- after a step to u
  module _ {env : ℕ → ℕ} {left steps variables : ℕ} {m : State} (h : Ahead env (suc left) steps variables m)
      (u : State) (instruction : Instruction) (fetched : get_elem? code m.counter ≡ some instruction) (stepped : step policy code m ≡ next u) where
    -- what is foretold, by what this instruction loads and what comes after it
    now : (loaded : List ℕ) → loaded_by m instruction ≡ loaded → (i : ℕ) → env (variables + i) ≡ get_or (loaded ++ loads left u) i 0 % 2 ^ 32
    now loaded e i =
        let split = loads_next left m u fetched stepped ∙ ap (λ (l : List ℕ). l ++ loads left u) e in
        h.foretold i ∙ ap (λ (l : List ℕ). get_or l i 0 % 2 ^ 32) split

    pub ahead_next : loaded_by m instruction ≡ [] → Ahead env left (steps + 1) variables u
    ahead_next e = record { room = omega (arith, h.room); foretold = now [] e }

    -- a load: the next variable is its value
    pub ahead_load : (w : ℕ) → loaded_by m instruction ≡ w ∷ [] → Ahead env left (steps + 1) (variables + 1) u
    ahead_load w e = record { room = omega (arith, h.room); foretold = later }
      where
        later : (i : ℕ) → env (variables + 1 + i) ≡ get_or (loads left u) i 0 % 2 ^ 32
        later i =
            let q : variables + 1 + i ≡ variables + suc i = omega arith in
            ap env q ∙ now (w ∷ []) e (suc i)

    pub load_value : (w : ℕ) → loaded_by m instruction ≡ w ∷ [] → env variables ≡ w % 2 ^ 32
    load_value w e = ap env (sym (add-zero variables)) ∙ now (w ∷ []) e 0
