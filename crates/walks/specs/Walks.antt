-- What an instruction, a walk along a path, and the paths that are followed owe. Assumes nothing.
use Rattle.std.specs.Prelude.{◌≡◌, List, ◌∷◌, ℕ, ◌-◌, ◌<◌, ◌≤◌, ◌⊎◌, suc, get_or, eqb, None, IfOk}
use Rattle.std.specs.List.{position_from}
use Rattle.model.specs.Result.{Result, Ok, Err}
use Rattle.model.specs.Term.{Term}
use Rattle.model.specs.Policy.{Policy}
use Rattle.model.specs.Package.{read_code}
use Rattle.model.specs.Routine.{Routine}
use Rattle.model.specs.Goals.{Path as ModelPath, Move, Trace, append, tracing, follow, branch, move, walk}
use Rattle.model.specs.Verdict.{refusing, judge}
use Rattle.model.specs.declared.Instruction.{Instruction}
use Rattle.model.specs.declared.Instruction.TheVariants.{Return}
use Rattle.model.specs.declared.Refusal.TheVariants.{PastLast, LongBlock}
use Rattle.model.specs.declared.Verdict.{Verdict}
use Rattle.nodes.specs.Atoms.{atom_in, AtomBelow}
use Rattle.nodes.specs.declared.Atom.{Atom as NodeAtom}
use Rattle.decoding.specs.Decoding.{Formed}
use Rattle.targets.specs.Targets.{Ahead}
use Rattle.refusals.specs.declared.Refused.{Refused}
use Rattle.setting.specs.declared.Setting.{Setting}
use Rattle.setting.specs.Setting.{Stands}
use Rattle.goals.specs.Judging.{Reached}
use Rattle.paths.specs.Walking.{path_of, Kept}
use Rattle.paths.specs.declared.Path.{Path}
use Rattle.goals.specs.declared.Progress.{Progress}
use Rattle.moves.specs.declared.Moved.{Moved}
use Rattle.moves.specs.declared.Moved.TheVariants.{On, Ended}
use Rattle.walks.specs.declared.Turn.{Turn}
use Rattle.walks.specs.declared.Turn.TheVariants.{Moves, Branches}
use Rattle.moves.specs.Moves.{RoomFor, Advanced, following, verdict_moved}
use Rattle.jumps.specs.Jumps.{opposite_of}

-- ---- where a path may be
abbrev pub count_of : Setting → ℕ
count_of setting = setting.tables.routine.header.instructions

-- no annotation is of the instruction at an index
abbrev pub Unlisted : Setting → (index : ℕ) → Type 0
Unlisted setting index = position_from (λ a. eqb a.index index) 0 setting.tables.annotations.now ≡ None

-- a jump from an index to another goes up, or to an annotated instruction
abbrev pub Toward : Setting → (index target : ℕ) → Type 0
Toward setting index target = Unlisted setting target → index < target

-- room for the instructions from the path's index up to n, each of which it meets once at most
abbrev pub RoomUp : (ws : List ℕ) → Setting → Path → Type 0
RoomUp ws setting path = RoomFor ws path (count_of setting - path.counter)

-- room for the goals of a path that stops where it is, and where no annotation stops it room to go on
pub record RoomOn (ws : List ℕ) (setting : Setting) (path : Path) : Type 0 where
  pub stops : RoomFor ws path 0
  pub inside : path.counter ≤ count_of setting
  pub goes_on : Unlisted setting path.counter → RoomUp ws setting path

-- ---- one instruction
-- the instruction of a code that checks 8, 9 and 12 have passed
pub record Fetched (setting : Setting) (index : ℕ) (r : Instruction) : Type 0 where
  pub formed : Formed (count_of setting) r
  pub is : (code : List Instruction) → read_code setting.tables.routine.bytes.now setting.tables.routine.header ≡ Ok code → get_or code index Return ≡ r
  pub ahead : Ahead setting.tables.annotations.now index r

-- The instruction that is evaluated at an index, with so many visits left before and after; or the refusal: at n, or where no visit is left.
abbrev pub Visited : Setting → (index before after : ℕ) → Progress → Result Instruction Refused → Type 0
Visited setting index before after p (Ok x) = Fetched setting index x × (index < count_of setting) × (before ≡ suc after)
Visited setting index before after p (Err x) =
    ((index ≡ count_of setting) × (x ≡ record { refusal = PastLast (count_of setting); goals = p.goals }))
    ⊎ ((index < count_of setting) × (before ≡ 0) × (x ≡ record { refusal = LongBlock index; goals = p.goals }))

-- the path that goes on after an instruction has come to a higher index or to an annotated one
pub record Onward (us : List ℕ) (setting : Setting) (path after : Path) : Type 0 where
  pub advanced : Advanced us path after
  pub inside : after.counter ≤ count_of setting
  pub toward : Toward setting path.counter after.counter

abbrev pub LeadsOn : (us : List ℕ) → Setting → Path → Result Moved Refused → Type 0
LeadsOn us setting path (Ok (On after q)) = Onward us setting path after × Reached setting.tables.routine.bytes.now q
LeadsOn us setting path (Ok (Ended q)) = Reached setting.tables.routine.bytes.now q
LeadsOn us setting path (Err x) = Unit {0}

-- what an instruction of a path owes, whose move is `what`
pub record Steps (ws us : List ℕ) (setting : Setting) (credit : Term) (what : Policy → Move) (path : Path) (before after : ℕ) (p : Progress) (r : Result Moved Refused) : Type 0 where
  -- the move is judged with so many visits left before it and after it, whatever paths are pending and whatever trace follows
  pub judged : (policy : Policy) (routine : Routine) → Stands setting policy routine → (pending : List ModelPath) (rest : Trace)
      → judge setting.tables.routine.bytes.now policy (append (tracing policy routine credit (walk policy routine credit before) pending (what policy)) rest) p.at p.goals
      ≡ verdict_moved setting.tables.routine.bytes.now policy routine credit us r (walk policy routine credit after) pending rest
  pub kept : Kept ws us path
  pub leads : LeadsOn us setting path r

abbrev pub Advances : (ws us : List ℕ) → Setting → (credit : Term) → Path → Instruction → (before after : ℕ) → Progress → Result Moved Refused → Type 0
Advances ws us setting credit path instruction before after p r = Steps ws us setting credit (λ policy. move policy credit (path_of ws path) instruction) path before after p r

-- a branch on a comparison of nodes
abbrev pub BranchSteps : (ws us : List ℕ) → Setting → (credit : Term) → Path → NodeAtom → (target before after : ℕ) → Progress → Result Moved Refused → Type 0
BranchSteps ws us setting credit path condition target before after p r =
    Steps ws us setting credit (λ policy. branch (path_of ws path) target (atom_in ws condition) (atom_in ws (opposite_of condition.kind condition.left condition.right))) path before after p r

-- ---- what one instruction leads to
-- a move, or its refusal
abbrev pub turned : Result Moved Refused → Result Turn Refused
turned (Ok m) = Ok (Moves m)
turned (Err x) = Err x

-- a branch on a comparison of nodes, which is an instruction's move
pub record Forks (ws : List ℕ) (setting : Setting) (credit : Term) (path : Path) (instruction : Instruction) (condition : NodeAtom) (target : ℕ) : Type 0 where
  pub inside : target < count_of setting
  pub toward : Toward setting path.counter target
  pub below : AtomBelow path.top condition
  pub is : (policy : Policy) → branch (path_of ws path) target (atom_in ws condition) (atom_in ws (opposite_of condition.kind condition.left condition.right)) ≡ move policy credit (path_of ws path) instruction

-- no visit of the block is made on the way
abbrev pub Turns : (ws us : List ℕ) → Setting → (credit : Term) → Path → Instruction → Progress → Result Turn Refused → Type 0
Turns ws us setting credit path instruction p (Ok (Moves m)) = (visits : ℕ) → Advances ws us setting credit path instruction visits visits p (Ok m)
Turns ws us setting credit path instruction p (Ok (Branches condition target)) = (us ≡ ws) × Forks ws setting credit path instruction condition target
Turns ws us setting credit path instruction p (Err x) = (visits : ℕ) → Advances ws us setting credit path instruction visits visits p (Err x)

-- ---- a part of a block
-- the trace of a part of a block, by the paths that are pending after it
abbrev pub Part : Type 0
Part = Policy → Routine → List ModelPath → Trace

-- the walk along a path, with so many visits left; a path that is followed: to where it has arrived, or by a walk
abbrev pub walked : (credit : Term) (visits : ℕ) → ModelPath → Part
walked credit visits s policy routine pending = walk policy routine credit visits s pending

abbrev pub followed : (credit : Term) (visits : ℕ) → ModelPath → Part
followed credit visits s policy routine pending = follow policy routine credit (walk policy routine credit visits) (s ∷ pending)

-- the checker's answer after a part, with so many visits left: the pending paths are followed, and then `rest`
abbrev pub verdict_parted : (bytes : List ℕ) → Policy → Routine → (credit : Term) → Result Progress Refused → (visits : ℕ) (pending : List ModelPath) (rest : Trace) → Verdict
verdict_parted bytes policy routine credit (Ok q) visits pending rest = judge bytes policy (following policy routine credit (walk policy routine credit visits) pending rest) q.at q.goals
verdict_parted bytes policy routine credit (Err x) visits pending rest = refusing x.refusal x.goals

-- what evaluating a part owes that begins with a path, where so many visits are left after it: the words of the path are kept
pub record Parts (ws us : List ℕ) (setting : Setting) (credit : Term) (part : Part) (path : Path) (p : Progress) (visits : ℕ) (r : Result Progress Refused) : Type 0 where
  pub judged : (policy : Policy) (routine : Routine) → Stands setting policy routine → (pending : List ModelPath) (rest : Trace)
      → judge setting.tables.routine.bytes.now policy (append (part policy routine pending) rest) p.at p.goals ≡ verdict_parted setting.tables.routine.bytes.now policy routine credit r visits pending rest
  pub kept : Kept ws us path
  pub reached : IfOk r (Reached setting.tables.routine.bytes.now)
