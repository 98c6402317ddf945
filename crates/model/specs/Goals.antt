-- Symbolic evaluation: the verification conditions of a routine, in order ("goals" in document 01). Assumes nothing.
use Rattle.std.specs.Prelude.{ℕ, zero, suc, ◌+◌, Bool, true, false, List, [], ◌∷◌, ◌++◌, map, length, get_or, set, leb}
use Rattle.std.proofs.Math.Option.{Option, none, some}
use Rattle.std.proofs.Math.ListN.{get_elem?}
use Rattle.model.specs.Term.{Term, constant, variable, sum, difference, mask, shift, size, substitute}
use Rattle.model.specs.Atom.{Atom, equal, unequal, less, at_most, substitute_atom}
use Rattle.model.specs.Policy.{Policy}
use Rattle.model.specs.Annotation.{Annotation, annotation_at}
use Rattle.model.specs.Routine.{Routine}
use Rattle.model.specs.declared.Refusal.{Refusal}
use Rattle.model.specs.declared.Refusal.TheVariants.{PastLast, LargeTerm, LongBlock}
use Rattle.model.specs.declared.Instruction.{Instruction}
use Rattle.model.specs.declared.Instruction.TheVariants.{Set, Add, AddImmediate, Subtract, Load, Store, Jump, JumpLess, JumpEqual, Return, Mask, Shift}

-- what a goal or a premise claims
pub data Claim : Type 0 where
  atom : Atom → Claim
  readable : Term → Claim
  writable : Term → Claim

-- a claim at an instruction, with the assumptions on the path to it and how many variables exist there
pub record Goal : Type 0 where
  pub assumptions : List Atom
  pub variables : ℕ
  pub instruction : ℕ
  pub claim : Claim

-- "A register's term has at most 255 nodes"
abbrev pub most_term_nodes : ℕ
most_term_nodes = 255

-- what evaluation gives: goals, one after the other, and then the end or a refusal
pub data Trace : Type 0 where
  goal : Goal → Trace → Trace
  finish : Trace
  refuse : Refusal → Trace

-- goals before a trace
unfoldable pub goals : List Goal → Trace → Trace
goals [] t = t
goals (g ∷ gs) t = goal g (goals gs t)

-- one trace after another
unfoldable pub append : Trace → Trace → Trace
append (goal g t) u = goal g (append t u)
append finish u = u
append (refuse r) u = refuse r

-- ---- paths

-- a path of a block: where it has come to, k instructions run, the registers' terms, the variables so far, the assumptions
pub record Path : Type 0 where
  pub counter : ℕ
  pub steps : ℕ
  pub registers : List Term
  pub variables : ℕ
  pub assumptions : List Atom

-- "Variables 0 to 15 are the registers there"
abbrev pub register_variables : List Term
register_variables =
    variable 0 ∷ variable 1 ∷ variable 2 ∷ variable 3 ∷ variable 4 ∷ variable 5 ∷ variable 6 ∷ variable 7
    ∷ variable 8 ∷ variable 9 ∷ variable 10 ∷ variable 11 ∷ variable 12 ∷ variable 13 ∷ variable 14 ∷ variable 15 ∷ []

-- a block's start at an index
abbrev pub block_start : (index : ℕ) → List Atom → Path
block_start index atoms = record { counter = index; steps = 0; registers = register_variables; variables = 16; assumptions = atoms }

module _ (s : Path) where
  abbrev pub term_of : (register : ℕ) → Term
  term_of register = get_or s.registers register (constant 0)

  -- "Address t is the sum of a's term and constant i."
  abbrev pub address_term : (a i : ℕ) → Term
  address_term a i = sum (term_of a) (constant i)

  abbrev pub goal_of : Claim → Goal
  goal_of claim = record { assumptions = s.assumptions; variables = s.variables; instruction = s.counter; claim = claim }

  -- one instruction more run, on to an index
  abbrev pub path_to : (index : ℕ) → Path
  path_to index = record { counter = index; steps = s.steps + 1; registers = s.registers; variables = s.variables; assumptions = s.assumptions }

  abbrev pub onward : Path
  onward = path_to (s.counter + 1)

  abbrev pub assuming : Atom → Path
  assuming a = record { counter = s.counter; steps = s.steps; registers = s.registers; variables = s.variables; assumptions = s.assumptions ++ (a ∷ []) }

  abbrev pub assigning : (d : ℕ) → Term → Path
  assigning d t = record { counter = s.counter; steps = s.steps; registers = set s.registers d t; variables = s.variables; assumptions = s.assumptions }

  -- "each load makes the next variable"
  abbrev pub loading : (d : ℕ) → Path
  loading d = record { counter = s.counter; steps = s.steps; registers = set s.registers d (variable s.variables); variables = s.variables + 1; assumptions = s.assumptions }

  -- each atom over current terms
  abbrev pub atom_goals : List Atom → List Goal
  atom_goals atoms = map (λ a. goal_of (atom (substitute_atom s.registers a))) atoms

  -- "each atom over current terms, then k at most C, then its credit at most the difference C - k", on the path that has arrived
  unfoldable pub arrival : (credit : Term) → Annotation → List Goal
  arrival credit a =
      atom_goals a.atoms
      ++ goal_of (atom (at_most (constant s.steps) credit))
      ∷ goal_of (atom (at_most (substitute s.registers a.credit) (difference credit (constant s.steps))))
      ∷ []

  -- "each postcondition atom, then k at most C, return counted in k"
  unfoldable pub returning : (credit : Term) → List Atom → List Goal
  returning credit postcondition = atom_goals postcondition ++ goal_of (atom (at_most (constant (s.steps + 1)) credit)) ∷ []

-- ---- blocks

-- what an instruction of a block leads to: goals, then each path with the instruction run, in order; or a refusal
pub data Move : Type 0 where
  goes : List Goal → List Path → Move
  refused : Refusal → Move

-- "A register's term has at most 255 nodes": 14, the index
unfoldable pub small_enough : Bool → (index : ℕ) → Path → Move
small_enough true index t = goes [] (t ∷ [])
small_enough false index t = refused (LargeTerm index)

unfoldable pub assign : Path → (d : ℕ) → Term → Move
assign s d t = small_enough (leb (size t) most_term_nodes) s.counter (onward (assigning s d t))

-- "Branch: the taken edge first, its condition assumed for that edge only; then on, assuming the opposite"
unfoldable pub branch : Path → (target : ℕ) → (taken opposite : Atom) → Move
branch s target taken opposite = goes [] (assuming (path_to s target) taken ∷ assuming (onward s) opposite ∷ [])

-- a return ends its path
unfoldable pub move : Policy → (credit : Term) → Path → Instruction → Move
move policy credit s (Set d i) = assign s d (constant i)
move policy credit s (Add d a b) = assign s d (sum (term_of s a) (term_of s b))
move policy credit s (AddImmediate d a i) = assign s d (sum (term_of s a) (constant i))
move policy credit s (Subtract d a b) = assign s d (difference (term_of s a) (term_of s b))
move policy credit s (Load d a i) = goes (goal_of s (readable (address_term s a i)) ∷ []) (onward (loading s d) ∷ [])
move policy credit s (Store d a i) = goes (goal_of s (writable (address_term s a i)) ∷ []) (onward s ∷ [])
move policy credit s (Jump i) = goes [] (path_to s i ∷ [])
move policy credit s (JumpLess a b i) = branch s i (less (term_of s a) (term_of s b)) (at_most (term_of s b) (term_of s a))
move policy credit s (JumpEqual a b i) = branch s i (equal (term_of s a) (term_of s b)) (unequal (term_of s a) (term_of s b))
move policy credit s Return = goes (returning s credit policy.postcondition) []
move policy credit s (Mask d a i) = assign s d (mask (term_of s a) (constant i))
move policy credit s (Shift d a i) = assign s d (shift i (term_of s a))

-- "23 when a block would evaluate its 4,097th instruction": a block may visit so many
abbrev pub most_visits : ℕ
most_visits = 4096

module _ (policy : Policy) (routine : Routine) where
  module _ (credit : Term) where
    -- "Evaluation then follows the taken edge wholly, to each return or annotated index, before going back to the other edge with the
    -- terms, variables, assumptions and k of the branch": the paths that are pending, in order. One that has come to an annotated
    -- index arrives there and ends; another is walked, and then those after it.
    unfoldable pub follow : (walks : Path → List Path → Trace) → List Path → Trace
    follow walks [] = finish
    follow walks (s ∷ pending) =
        elim (annotation_at routine.annotations s.counter) [
          | none ↦ walks s pending
          | some a ↦ goals (arrival s credit a) (follow walks pending)
        ]

    -- the goals of an instruction, then its paths before those that are pending
    unfoldable pub tracing : (walks : Path → List Path → Trace) → (pending : List Path) → Move → Trace
    tracing walks pending (goes gs paths) = goals gs (follow walks (paths ++ pending))
    tracing walks pending (refused r) = refuse r

    -- "13: evaluation passes the last instruction (n)"
    unfoldable pub evaluating : (Instruction → Trace) → Option Instruction → Trace
    evaluating evaluates none = refuse (PastLast (length routine.code))
    evaluating evaluates (some instruction) = evaluates instruction

    -- The block from a path on, and then from those that are pending, with so many instructions yet to be evaluated, "repeats on other
    -- paths counted": 23 "with the instruction's index as place, before that instruction's goals".
    unfoldable pub walk : (visits : ℕ) → Path → (pending : List Path) → Trace
    walk zero s pending = evaluating (λ instruction. refuse (LongBlock s.counter)) (get_elem? routine.code s.counter)
    walk (suc visits) s pending =
        evaluating (λ instruction. tracing (λ t rest. walk visits t rest) pending (move policy credit s instruction))
        (get_elem? routine.code s.counter)

  -- "A block starts at instruction 0 (assumptions: the precondition; credit C: constant N)"; "the block at 0 does [stop],
  -- with k = 0, if 0 is annotated"
  unfoldable pub entry_block : Trace
  entry_block =
      let credit = constant policy.limit in
      follow credit (walk credit most_visits) (block_start 0 policy.precondition ∷ [])

  -- "then one at each annotation in order (assumptions: its atoms; C: its credit)"
  unfoldable pub annotation_block : Annotation → Trace
  annotation_block a = walk a.credit most_visits (block_start a.index a.atoms) []

  unfoldable pub annotation_blocks : List Annotation → Trace
  annotation_blocks [] = finish
  annotation_blocks (a ∷ rest) = append (annotation_block a) (annotation_blocks rest)

  unfoldable pub trace_of : Trace
  trace_of = append entry_block (annotation_blocks routine.annotations)
