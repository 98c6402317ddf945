-- Laws of the walk along a path, one for each way out. Assumes nothing.
use mathlib.Core.Path.{◌≡◌, refl, sym, ap, ◌∙◌}
use mathlib.Core.Option.{some}
use mathlib.Core.List.{List}
use mathlib.Core.Logic.{inl, inr}
use Prim.Native.Nat.{ℕ, ◌<◌, ◌≤◌}
use native.Mathlib.Omega.{arith}
use lib.ListN.{length, get_or, get_elem?}
use Rattle.std.specs.Prelude.{Option, None, Some, IfOk}
use Rattle.std.specs.Result.{result_unwrap_or}
use Rattle.model.specs.Result.{Result, Err, Ok}
use Rattle.model.specs.Policy.{Policy}
use Rattle.model.specs.Routine.{Routine}
use Rattle.model.specs.Instruction.{target_of}
use Rattle.model.specs.Goals.{Path as ModelPath, Trace, append, walk}
use Rattle.model.specs.Verdict.{judge}
use Rattle.model.specs.declared.Refusal.{Refusal}
use Rattle.model.specs.declared.Refusal.TheVariants.{PastLast, LongBlock}
use Rattle.model.specs.declared.Instruction.{Instruction}
use Rattle.model.specs.declared.Instruction.TheVariants.{Return}
use Rattle.model.proofs.Lists.{get_inside}
use Rattle.workspace.specs.Layout.{table_base}
use Rattle.workspace.proofs.Frames.{same_within}
use Rattle.nodes.specs.Table.{place, term_at}
use Rattle.assumptions.specs.Area.{slot}
use Rattle.decoding.specs.Decoding.{Formed}
use Rattle.routine.specs.Code.{instruction_at}
use Rattle.routine.proofs.Facts.{code_at}
use Rattle.claims.proofs.StepLaws.{past_last}
use Rattle.refusals.specs.declared.Refused.{Refused}
use Rattle.setting.specs.declared.Setting.{Setting}
use Rattle.setting.specs.Setting.{Stands}
use Rattle.setting.proofs.Standing.{code_long, tables_stand}
use Rattle.workspace.specs.Room.{goal_room}
use Rattle.goals.specs.Room.{Going}
use Rattle.goals.specs.Judging.{Reached}
use Rattle.goals.specs.declared.Progress.{Progress}
use Rattle.paths.specs.Walking.{path_of, NodeIn, Kept}
use Rattle.paths.specs.declared.Path.{Path}
use Rattle.paths.proofs.Kept.{kept_none, kept_same, kept_then, node_equal, node_held, node_wider, path_equal}
use Rattle.moves.specs.declared.Moved.{Moved}
use Rattle.moves.specs.declared.Moved.TheVariants.{On, Ended}
use Rattle.moves.specs.Moves.{RoomFor, verdict_moved}
use Rattle.moves.proofs.PathLaws.{room_kept}
use Rattle.jumps.specs.Jumps.{Arrives}
use Rattle.walks.specs.Walks.{count_of, Unlisted, RoomUp, RoomOn, Fetched, Visited, Onward, Advances, walked, followed, Parts}
use Rattle.walks.proofs.PartLaws.{walk_past, walk_spent, walk_steps, follow_on, follow_arrived, judged_as, judged_refused, judged_goals}

-- ---- the instruction at an index
-- a return has no target
no_target : {A : Type 0} (t : ℕ) → target_of Return ≡ Some t → A
unfolding target_of
no_target t f = absurd (cc)

module _ (setting : Setting) {index : ℕ} (below : index < count_of setting) where
  pub fetched : (r : Result Instruction Refusal) → r ≡ instruction_at setting.tables.routine.bytes.now setting.tables.routine.header index → IfOk r (Formed (count_of setting)) → Fetched setting index (result_unwrap_or r Return)
  fetched (Ok x) e f = record {
    formed = f;
    is = λ code c. let same : Ok x ≡ Ok (get_or code index Return) = e ∙ code_at setting.tables.routine.bytes.now setting.tables.routine.header c index Return below in cc;
    ahead = setting.tables.targets_ahead index below x (sym e);
  }
  fetched (Err x) e f = record {
    formed = tt;
    is = λ code c. let same : Err x ≡ Ok (get_or code index Return) = e ∙ code_at setting.tables.routine.bytes.now setting.tables.routine.header c index Return below in absurd (cc);
    ahead = λ t f g. no_target t f;
  }

-- ---- words that are kept
-- of a path that goes further, and so of one before it
pub kept_lower : {ws us : List ℕ} {p q : Path} → p.assumptions ≤ q.assumptions → p.top ≤ q.top → Kept ws us q → Kept ws us p
kept_lower {p = p} h k s = record { low = same_within 0 (slot p.assumptions) (omega arith) (omega arith) s.low; table = same_within table_base (place p.top) (omega arith) (omega arith) s.table }

-- ---- room
module _ {ws : List ℕ} (setting : Setting) {path : Path} (g : RoomUp ws setting path) where
  -- for one instruction
  pub room_for_one : path.counter < count_of setting → RoomFor ws path 1
  room_for_one h = record {
    words = g.words;
    path_in = g.path_in;
    nodes = omega (arith, g.nodes);
    assumed = omega (arith, g.assumed);
    loaded = omega (arith, g.loaded);
    run = omega (arith, g.run);
    within = omega (arith, g.within);
  }

  -- after it
  module _ {us : List ℕ} {after : Path} (inside : path.counter < count_of setting) (o : Onward us setting path after) (long : length us ≡ length ws) where
    up : Unlisted setting after.counter → RoomUp us setting after
    up nowhere =
        let higher = o.toward nowhere in
        record {
          words = omega (arith, g.words);
          path_in = o.advanced.path_in;
          nodes = omega (arith, g.nodes, o.advanced.nodes, o.inside);
          assumed = omega (arith, g.assumed, o.advanced.assumptions, o.inside);
          loaded = omega (arith, g.loaded, o.advanced.variables, o.inside);
          run = omega (arith, g.run, o.advanced.steps, o.inside);
          within = omega (arith, g.within, o.inside);
        }

    pub room_after : RoomOn us setting after
    room_after = record {
      stops = record {
        words = omega (arith, g.words);
        path_in = o.advanced.path_in;
        nodes = omega (arith, g.nodes, o.advanced.nodes);
        assumed = omega (arith, g.assumed, o.advanced.assumptions);
        loaded = omega (arith, g.loaded, o.advanced.variables);
        run = omega (arith, g.run, o.advanced.steps);
        within = omega (arith, g.within, o.inside);
      };
      inside = o.inside;
      goes_on = up;
    }

-- for the goals of an arrival
pub going_there : {ws bytes : List ℕ} {path : Path} {p : Progress} → RoomFor ws path 0 → Reached bytes p → Going ws bytes goal_room path p
going_there g h = record { inside = g.path_in; space = record { words = omega (arith, g.words); fits = omega (arith, g.nodes) }; reached = h }

-- ---- a path that is followed
module _ {ws us : List ℕ} (setting : Setting) {path : Path} {p : Progress} (credit : ℕ) (few : RoomFor ws path 0) where
  arrival_kept : {o : Result (Option Progress) Refused} → Arrives ws us setting.tables (term_at ws credit) path p o → Kept ws us path
  arrival_kept a = kept_same path few.path_in.prepared.assumed.few a.kept

  pub follow_arrives : {visits : ℕ} {q : Progress} → Arrives ws us setting.tables (term_at ws credit) path p (Ok (Some q)) → Parts ws us setting (term_at ws credit) (followed (term_at ws credit) visits (path_of ws path)) path p visits (Ok q)
  follow_arrives a = record {
    judged = λ policy routine s pending rest.
        let (note, is, judges) = a.judged policy routine (tables_stand setting s) in
        judged_as setting.tables.routine.bytes.now policy p rest (follow_arrived policy routine _ _ (path_of ws path) pending is) ∙ judged_goals setting.tables.routine.bytes.now policy p rest _ _ ∙ judges.says _;
    kept = arrival_kept a;
    reached = a.reached;
  }

  pub follow_stops : {visits : ℕ} {x : Refused} → Arrives ws us setting.tables (term_at ws credit) path p (Err x) → Parts ws us setting (term_at ws credit) (followed (term_at ws credit) visits (path_of ws path)) path p visits (Err x)
  follow_stops a = record {
    judged = λ policy routine s pending rest.
        let (note, is, judges) = a.judged policy routine (tables_stand setting s) in
        judged_as setting.tables.routine.bytes.now policy p rest (follow_arrived policy routine _ _ (path_of ws path) pending is) ∙ judged_goals setting.tables.routine.bytes.now policy p rest _ _ ∙ judges.says _;
    kept = arrival_kept a;
    reached = tt;
  }

  -- it is walked
  module _ (n : NodeIn ws path credit) (a : Arrives ws us setting.tables (term_at ws credit) path p (Ok None)) where
    pub walk_room : length us ≡ length ws → (Unlisted setting path.counter → RoomUp ws setting path) → RoomUp us setting path
    walk_room long h = room_kept (arrival_kept a) long (h (a.nowhere refl))

    pub walk_credit : NodeIn us path credit
    walk_credit = node_held (arrival_kept a) n

    pub follow_walks : {vs : List ℕ} (visits : ℕ) {left : ℕ} {r : Result Progress Refused} → Parts us vs setting (term_at us credit) (walked (term_at us credit) visits (path_of us path)) path p left r
        → Parts ws vs setting (term_at ws credit) (followed (term_at ws credit) visits (path_of ws path)) path p left r
    follow_walks {vs} visits {left} {r} w =
        let v : Parts us vs setting (term_at ws credit) (walked (term_at ws credit) visits (path_of ws path)) path p left r = rw (← node_equal (arrival_kept a) n, ← path_equal (arrival_kept a) few.path_in) w in
        record {
          judged = λ policy routine s pending rest. judged_as setting.tables.routine.bytes.now policy p rest (follow_on policy routine (term_at ws credit) _ (path_of ws path) pending (a.judged policy routine (tables_stand setting s))) ∙ v.judged policy routine s pending rest;
          kept = kept_then (arrival_kept a) v.kept;
          reached = v.reached;
        }

-- ---- the walk
-- the instruction of the routine at an index
there : {setting : Setting} {index : ℕ} {x : Instruction} → Fetched setting index x → index < count_of setting → {policy : Policy} {routine : Routine} → Stands setting policy routine → get_elem? routine.code index ≡ some x
there {setting} {index} f below {policy} {routine} s = get_inside routine.code index Return (omega (arith, code_long setting s)) ∙ ap some (f.is routine.code s.code_read)

module _ {ws : List ℕ} {setting : Setting} {path : Path} (credit : ℕ) {p : Progress} {before after : ℕ} where
  -- no instruction is evaluated
  pub walk_stops : (x : Refused) → Visited setting path.counter before after p (Err x) → Parts ws ws setting (term_at ws credit) (walked (term_at ws credit) before (path_of ws path)) path p after (Err x)
  walk_stops x (inl (at-end, is)) = record {
    judged = λ policy routine s pending rest.
        judged_as setting.tables.routine.bytes.now policy p rest (walk_past policy routine _ (path_of ws path) pending before (past_last routine.code path.counter (omega (arith, code_long setting s, at-end))))
        ∙ judged_refused setting.tables.routine.bytes.now policy p rest (PastLast (length routine.code))
        ∙ rw (is, code_long setting s) refl;
    kept = kept_none path;
    reached = tt;
  }
  walk_stops x (inr (below, spent, is)) = record {
    judged = λ policy routine s pending rest.
        judged_as setting.tables.routine.bytes.now policy p rest (walk_spent policy routine _ (path_of ws path) pending (get_inside routine.code path.counter Return (omega (arith, code_long setting s, below))) spent)
        ∙ judged_refused setting.tables.routine.bytes.now policy p rest (LongBlock path.counter)
        ∙ rw is refl;
    kept = kept_none path;
    reached = tt;
  }

  -- an instruction is evaluated
  module _ {us : List ℕ} (x : Instruction) (v : Visited setting path.counter before after p (Ok x)) where
    module _ {left : ℕ} {m : Result Moved Refused} (a : Advances ws us setting (term_at ws credit) path x after left p m) where
      stepped : (policy : Policy) (routine : Routine) → Stands setting policy routine → (pending : List ModelPath) (rest : Trace)
          → judge setting.tables.routine.bytes.now policy (append (walk policy routine (term_at ws credit) before (path_of ws path) pending) rest) p.at p.goals
          ≡ verdict_moved setting.tables.routine.bytes.now policy routine (term_at ws credit) us m (walk policy routine (term_at ws credit) left) pending rest
      stepped policy routine s pending rest = judged_as setting.tables.routine.bytes.now policy p rest (walk_steps policy routine (term_at ws credit) (path_of ws path) pending (there v.0 v.1 s) v.2) ∙ a.judged policy routine s pending rest

    pub walk_refused : {left : ℕ} {y : Refused} → Advances ws us setting (term_at ws credit) path x after left p (Err y) → Parts ws us setting (term_at ws credit) (walked (term_at ws credit) before (path_of ws path)) path p left (Err y)
    walk_refused a = record { judged = stepped a; kept = a.kept; reached = tt }

    pub walk_ends : {left : ℕ} {q : Progress} → Advances ws us setting (term_at ws credit) path x after left p (Ok (Ended q)) → Parts ws us setting (term_at ws credit) (walked (term_at ws credit) before (path_of ws path)) path p left (Ok q)
    walk_ends a = record { judged = stepped a; kept = a.kept; reached = a.leads }

    -- the path goes on
    module _ (n : NodeIn ws path credit) {left : ℕ} {on : Path} {q : Progress} (a : Advances ws us setting (term_at ws credit) path x after left p (Ok (On on q))) where
      pub credit_after : NodeIn us on credit
      credit_after = node_wider a.leads.0.advanced.above a.leads.0.advanced.more (node_held a.kept n)

      pub walk_goes : {vs : List ℕ} {fewer : ℕ} {r : Result Progress Refused} → Parts us vs setting (term_at us credit) (followed (term_at us credit) left (path_of us on)) on q fewer r
          → Parts ws vs setting (term_at ws credit) (walked (term_at ws credit) before (path_of ws path)) path p fewer r
      walk_goes {vs} {fewer} {r} w =
          let v : Parts us vs setting (term_at ws credit) (followed (term_at ws credit) left (path_of us on)) on q fewer r = rw (← node_equal a.kept n) w in
          record {
            judged = λ policy routine s pending rest. stepped a policy routine s pending rest ∙ v.judged policy routine s pending rest;
            kept = kept_then a.kept (kept_lower a.leads.0.advanced.listed a.leads.0.advanced.above w.kept);
            reached = w.reached;
          }
