-- The walk as a loop, and the measure by which it calls itself. Assumes nothing.
use mathlib.Core.Path.{◌≡◌, refl}
use mathlib.Core.List.{List}
use Prim.Native.Nat.{ℕ, ◌+◌, ◌*◌, ◌-◌, ◌<◌, ◌≤◌}
use native.Mathlib.Omega.{arith}
use lib.Dec.{eqb}
use lib.ListN.{length}
use Rattle.std.specs.Prelude.{Option, None, Some}
use Rattle.std.specs.List.{position_from}
use Rattle.model.specs.Result.{Result, Ok, Err}
use Rattle.model.specs.declared.Instruction.{Instruction}
use Rattle.nodes.specs.Table.{term_at}
use Rattle.annotations.specs.declared.reading.Annotated.{Annotated}
use Rattle.refusals.specs.declared.Refused.{Refused}
use Rattle.setting.specs.declared.Setting.{Setting}
use Rattle.goals.specs.Judging.{Reached}
use Rattle.goals.specs.declared.Progress.{Progress}
use Rattle.blocks.specs.declared.Block.{Block}
use Rattle.paths.specs.Walking.{path_of, NodeIn}
use Rattle.paths.specs.declared.Path.{Path}
use Rattle.moves.specs.declared.Moved.TheVariants.{On, Ended}
use Rattle.jumps.specs.Jumps.{Arrives}
use Rattle.walks.specs.Walks.{count_of, Unlisted, Toward, RoomUp, RoomOn, Visited, Advances, walked, Parts}
use Rattle.walks.proofs.WalkLaws.{room_after, follow_arrives, follow_stops, walk_room, walk_credit, follow_walks, walk_stops, walk_refused, walk_ends, credit_after, walk_goes}

-- ---- the measure
-- of a path that is followed: where an annotation stops it, no call is left
pub nearer : Setting → (index : ℕ) → ℕ
nearer setting index =
    elim (position_from (λ (a : Annotated). eqb a.index index) 0 setting.tables.annotations.now) [
      | None ↦ 4 * (count_of setting - index) + 4
      | Some k ↦ 0
    ]

pub nearer_on : (setting : Setting) (index : ℕ) → Unlisted setting index → nearer setting index ≡ 4 * (count_of setting - index) + 4
unfolding nearer
nearer_on setting index e = rw (e, nearer)

pub nearer_ahead : (setting : Setting) {index target : ℕ} → Toward setting index target → target ≤ count_of setting → nearer setting target < 4 * (count_of setting - index) + 1
unfolding nearer
nearer_ahead setting {index} {target} toward inside = go (position_from (λ (a : Annotated). eqb a.index target) 0 setting.tables.annotations.now) refl
  where
    go : (o : Option ℕ) → position_from (λ (a : Annotated). eqb a.index target) 0 setting.tables.annotations.now ≡ o → nearer setting target < 4 * (count_of setting - index) + 1
    go None e = let ahead = toward e in rw (e, nearer) (omega arith)
    go (Some k) e = rw (e, nearer) (omega arith)

-- ---- the loop
-- what comes of the walk from here comes of the whole
pub record Looping (start ws : List ℕ) (setting : Setting) (first block : Block) (at-first at-here : Progress) (visits left : ℕ) : Type 0 where
  pub room : RoomUp ws setting block.path
  pub inside : block.path.counter ≤ count_of setting
  pub credit_in : NodeIn ws block.path block.credit
  pub reached : Reached setting.tables.routine.bytes.now at-here
  pub higher : first.path.counter ≤ block.path.counter
  pub rest : (vs : List ℕ) (fewer : ℕ) (r : Result Progress Refused) → Parts ws vs setting (term_at ws block.credit) (walked (term_at ws block.credit) left (path_of ws block.path)) block.path at-here fewer r
      → Parts start vs setting (term_at start first.credit) (walked (term_at start first.credit) visits (path_of start first.path)) first.path at-first fewer r

pub at_start : {ws : List ℕ} {setting : Setting} {block : Block} {p : Progress} {visits : ℕ} → RoomUp ws setting block.path → block.path.counter ≤ count_of setting → NodeIn ws block.path block.credit → Reached setting.tables.routine.bytes.now p
    → Looping ws ws setting block block p p visits visits
at_start g i n h = record { room = g; inside = i; credit_in = n; reached = h; higher = omega arith; rest = λ vs fewer r w. w }

module _ {start ws : List ℕ} {setting : Setting} {first block : Block} {at-first at-here : Progress} {visits left : ℕ} (l : Looping start ws setting first block at-first at-here visits left) where
  pub loop_stops : {fewer : ℕ} (x : Refused) → Visited setting block.path.counter left fewer at-here (Err x) → Parts start ws setting (term_at start first.credit) (walked (term_at start first.credit) visits (path_of start first.path)) first.path at-first fewer (Err x)
  loop_stops x v = l.rest ws _ _ (walk_stops block.credit x v)

  module _ {us : List ℕ} {after fewer : ℕ} (x : Instruction) (v : Visited setting block.path.counter left after at-here (Ok x)) where
    pub loop_refused : {y : Refused} → Advances ws us setting (term_at ws block.credit) block.path x after fewer at-here (Err y) → Parts start us setting (term_at start first.credit) (walked (term_at start first.credit) visits (path_of start first.path)) first.path at-first fewer (Err y)
    loop_refused a = l.rest us _ _ (walk_refused block.credit x v a)

    pub loop_ends : {q : Progress} → Advances ws us setting (term_at ws block.credit) block.path x after fewer at-here (Ok (Ended q)) → Parts start us setting (term_at start first.credit) (walked (term_at start first.credit) visits (path_of start first.path)) first.path at-first fewer (Ok q)
    loop_ends a = l.rest us _ _ (walk_ends block.credit x v a)

    -- the path goes on, and arrives or not
    module _ {on : Path} {q : Progress} (a : Advances ws us setting (term_at ws block.credit) block.path x after fewer at-here (Ok (On on q))) (long : length us ≡ length ws) where
      pub on_room : RoomOn us setting on
      on_room = room_after setting l.room v.1 a.leads.0 long

      pub on_credit : NodeIn us on block.credit
      on_credit = credit_after block.credit x v l.credit_in a

      pub loop_arrives : {vs : List ℕ} {j : Progress} → Arrives us vs setting.tables (term_at us block.credit) on q (Ok (Some j)) → Parts start vs setting (term_at start first.credit) (walked (term_at start first.credit) visits (path_of start first.path)) first.path at-first fewer (Ok j)
      loop_arrives b = l.rest _ _ _ (walk_goes block.credit x v l.credit_in a (follow_arrives setting block.credit on_room.stops b))

      pub loop_arrival_stops : {vs : List ℕ} {y : Refused} → Arrives us vs setting.tables (term_at us block.credit) on q (Err y) → Parts start vs setting (term_at start first.credit) (walked (term_at start first.credit) visits (path_of start first.path)) first.path at-first fewer (Err y)
      loop_arrival_stops b = l.rest _ _ _ (walk_goes block.credit x v l.credit_in a (follow_stops setting block.credit on_room.stops b))

      pub loop_goes : {vs : List ℕ} → Arrives us vs setting.tables (term_at us block.credit) on q (Ok None) → length vs ≡ length us → Looping start vs setting first (record { path = on; credit = block.credit }) at-first q visits fewer
      loop_goes b longer = record {
        room = walk_room setting block.credit on_room.stops on_credit b longer on_room.goes_on;
        inside = on_room.inside;
        credit_in = walk_credit setting block.credit on_room.stops on_credit b;
        reached = a.leads.1;
        higher = omega (arith, l.higher, a.leads.0.toward (b.nowhere refl));
        rest = λ xs least r w. l.rest xs least r (walk_goes block.credit x v l.credit_in a (follow_walks setting block.credit on_room.stops on_credit b _ w));
      }

      -- it is nearer to n
      pub loop_nearer : {vs : List ℕ} → Arrives us vs setting.tables (term_at us block.credit) on q (Ok None) → count_of setting - on.counter < count_of setting - block.path.counter
      loop_nearer b = omega (arith, v.1, a.leads.0.toward (b.nowhere refl))
