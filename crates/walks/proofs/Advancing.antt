-- Laws of one instruction. Assumes nothing.
use mathlib.Core.Path.{◌≡◌, refl, subst}
use mathlib.Core.List.{List}
use Prim.Native.Nat.{ℕ, ◌<◌, ◌≤◌}
use native.Mathlib.Omega.{arith}
use lib.ListN.{get_or}
use Rattle.model.specs.Result.{Result, Ok, Err}
use Rattle.model.specs.Term.{Term}
use Rattle.model.specs.Policy.{Policy}
use Rattle.model.specs.Routine.{Routine}
use Rattle.model.specs.Goals.{branch, Move, goals, assign, move, tracing, walk}
use Rattle.model.specs.declared.Instruction.{Instruction}
use Rattle.model.specs.declared.Instruction.TheVariants.{Jump}
use Rattle.nodes.specs.Atoms.{node_atom, atom_in}
use Rattle.nodes.specs.Table.{term_at}
use Rattle.nodes.specs.declared.Atom.{Atom as NodeAtom}
use Rattle.decoding.specs.Decoding.{Formed}
use Rattle.model.specs.declared.Refusal.{Refusal}
use Rattle.refusals.specs.declared.Refused.{Refused}
use Rattle.setting.specs.declared.Setting.{Setting}
use Rattle.setting.specs.Setting.{Stands}
use Rattle.goals.specs.Judging.{Reached}
use Rattle.goals.specs.declared.Progress.{Progress}
use Rattle.model.specs.Expression.{register_count}
use Rattle.model.specs.declared.Comparison.{Comparison}
use Rattle.paths.specs.Walking.{path_of, stepped_to, PathIn}
use Rattle.paths.proofs.Kept.{kept_none}
use Rattle.moves.proofs.PathLaws.{path_stepped}
use Rattle.moves.proofs.Assigning.{pair_below}
use Rattle.paths.specs.declared.Path.{Path}
use Rattle.moves.specs.declared.Moved.{Moved}
use Rattle.walks.specs.declared.Turn.{Turn}
use Rattle.moves.specs.declared.Moved.TheVariants.{On, Ended}
use Rattle.moves.specs.Moves.{RoomFor, Leads, MoveJudged, Moves, Assigns, going_on}
use Rattle.jumps.specs.Jumps.{opposite_of}
use Rattle.walks.specs.Walks.{count_of, Toward, LeadsOn, turned, Turns, Forks, Advances, BranchSteps}

-- an instruction's fields, once its kind is known
pub formed_as : (n : ℕ) {x y : Instruction} → Formed n x → x ≡ y → Formed n y
formed_as n f e = subst (Formed n) e f

-- ---- the move of an instruction by another name
-- a path that goes on at the next index
next : (us : List ℕ) (setting : Setting) (path : Path) (r : Result Moved Refused) → path.counter < count_of setting → Leads us setting.tables.routine.bytes.now path r → LeadsOn us setting path r
next us setting path (Ok (On after q)) below l = (record { advanced = l.0; inside = omega (arith, l.1); toward = λ _. omega (arith, l.1) }, l.2)
next us setting path (Ok (Ended q)) below l = l
next us setting path (Err x) below l = tt

module _ {ws us : List ℕ} {setting : Setting} {credit : Term} {path : Path} (instruction : Instruction) (visits : ℕ) {p : Progress} {r : Result Moved Refused} where
  pub advances : {Where : Policy → Routine → Type 0} {what : Policy → Routine → Move} → path.counter < count_of setting → ((policy : Policy) (routine : Routine) → Stands setting policy routine → Where policy routine)
      → ((policy : Policy) (routine : Routine) → what policy routine ≡ move policy credit (path_of ws path) instruction)
      → Moves ws us setting.tables.routine.bytes.now Where credit what path p r → Advances ws us setting credit path instruction visits visits p r
  advances below w e m = record {
    judged = λ policy routine s pending rest. (subst (λ (x : Move). MoveJudged setting.tables.routine.bytes.now policy routine credit us x p r) (e policy routine) (m.judged policy routine (w policy routine s))).says (walk policy routine credit visits) pending rest;
    kept = m.kept;
    leads = next us setting path r below m.leads;
  }

  -- an assignment
  pub assigns : {vs : List ℕ} {d : ℕ} {t : Term} {o q : Result Path Refusal} → path.counter < count_of setting → Reached setting.tables.routine.bytes.now p
      → ((policy : Policy) (routine : Routine) → assign (path_of ws path) d t ≡ move policy credit (path_of ws path) instruction)
      → Assigns ws vs path d t q → us ≡ vs → o ≡ q → r ≡ going_on p o → Advances ws us setting credit path instruction visits visits p r
  assigns {d = d} {t} {o} below h e a words same is =
      let b : Assigns ws us path d t o = rw (words, same) a in
      advances below (λ policy routine s. tt {0}) e (rw is (b.moves setting.tables.routine.bytes.now credit p h))

-- a jump
pub jumps : {ws : List ℕ} {setting : Setting} {credit : Term} {path after : Path} {p : Progress} (visits : ℕ) {target : ℕ} → RoomFor ws path 1 → after ≡ stepped_to path target → target ≤ count_of setting → Toward setting path.counter target → Reached setting.tables.routine.bytes.now p
    → Advances ws ws setting credit path (Jump target) visits visits p (Ok (On after p))
unfolding move tracing goals
jumps {path = path} visits {target} g e inside toward h = rw e (record {
  judged = λ policy routine s pending rest. refl;
  kept = kept_none path;
  leads = (
    record {
      advanced = record {
        path_in = path_stepped g.path_in target (omega (arith, g.run));
        steps = refl;
        above = omega arith;
        nodes = omega arith;
        more = omega arith;
        variables = omega arith;
        listed = omega arith;
        assumptions = omega arith;
      };
      inside = inside;
      toward = toward;
    },
    h,
  );
})

-- a move, or its refusal
pub turns : {ws us : List ℕ} (setting : Setting) (credit : Term) {path : Path} (instruction : Instruction) {p : Progress} (m : Result Moved Refused) {r : Result Turn Refused} → r ≡ turned m
    → ((visits : ℕ) → Advances ws us setting credit path instruction visits visits p m) → Turns ws us setting credit path instruction p r
turns setting credit instruction (Ok m) e a = rw e a
turns setting credit instruction (Err x) e a = rw e a

-- a branch on a comparison of registers a and b
pub forks : {ws : List ℕ} {setting : Setting} {credit : Term} {path : Path} {instruction : Instruction} (kind : Comparison) {a b target x y : ℕ} {condition : NodeAtom} → PathIn ws path
    → (a < register_count) × (b < register_count) × (target < count_of setting) → Toward setting path.counter target → x ≡ get_or path.registers a 0 → y ≡ get_or path.registers b 0 → condition ≡ node_atom kind x y
    → ((policy : Policy) → branch (path_of ws path) target (atom_in ws (node_atom kind (get_or path.registers a 0) (get_or path.registers b 0))) (atom_in ws (opposite_of kind (get_or path.registers a 0) (get_or path.registers b 0))) ≡ move policy credit (path_of ws path) instruction)
    → Forks ws setting credit path instruction condition target
forks kind w below toward first second compared is = record {
  inside = below.2;
  toward = toward;
  below = rw compared (pair_below below.0 below.1 first second w);
  is = λ policy. rw (compared, first, second) (is policy);
}

-- a branch's instruction by another name: its move is that of the comparison
pub branches : {ws us vs : List ℕ} {setting : Setting} (credit : ℕ) {path : Path} (instruction : Instruction) (condition : NodeAtom) (target : ℕ) {before after : ℕ} {p : Progress} {r : Result Moved Refused}
    → Forks ws setting (term_at ws credit) path instruction condition target → us ≡ ws → BranchSteps us vs setting (term_at us credit) path condition target before after p r → Advances ws vs setting (term_at ws credit) path instruction before after p r
branches {ws} {us} {vs} {setting} credit {path} instruction condition target {before} {after} {p} {r} f same b =
    let there : BranchSteps ws vs setting (term_at ws credit) path condition target before after p r = rw (← same) b in
    record { judged = λ policy routine s pending rest. rw (← f.is policy) (there.judged policy routine s pending rest); kept = there.kept; leads = there.leads }
