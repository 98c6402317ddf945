-- Laws of a branch: the taken edge and what is followed there, then the other edge. Assumes nothing.
use mathlib.Core.Path.{◌≡◌, ap, ap₂, ◌∙◌}
use mathlib.Core.List.{List, ◌∷◌}
use Prim.Native.Nat.{ℕ, ◌+◌, ◌<◌, ◌≤◌}
use native.Mathlib.Omega.{arith}
use lib.ListN.{length}
use Rattle.model.specs.Result.{Result, Ok, Err}
use Rattle.model.specs.Atom.{Atom}
use Rattle.model.specs.Goals.{Path as ModelPath, goals, assuming, path_to, onward, branch, tracing}
use Rattle.nodes.specs.Atoms.{atom_in, AtomBelow}
use Rattle.nodes.specs.Table.{term_at}
use Rattle.nodes.specs.declared.Atom.{Atom as NodeAtom}
use Rattle.nodes.proofs.Table.{term_same}
use Rattle.refusals.specs.declared.Refused.{Refused}
use Rattle.setting.specs.declared.Setting.{Setting}
use Rattle.goals.specs.declared.Progress.{Progress}
use Rattle.paths.specs.Walking.{path_of, NodeIn, Kept}
use Rattle.paths.specs.declared.Path.{Path}
use Rattle.paths.proofs.Kept.{kept_then, node_equal, node_held, node_wider, path_equal}
use Rattle.moves.specs.declared.Moved.TheVariants.{On}
use Rattle.moves.specs.Moves.{RoomFor}
use Rattle.moves.proofs.PathLaws.{room_kept}
use Rattle.jumps.specs.Jumps.{opposite_of, Edge}
use Rattle.jumps.proofs.Jumping.{opposite_below}
use Rattle.walks.specs.Walks.{count_of, Toward, RoomUp, RoomOn, Onward, BranchSteps, followed, Parts}
use Rattle.walks.proofs.WalkLaws.{kept_lower, room_for_one, room_after}

-- an edge that goes up, or to an annotated instruction
pub edge_onward : {ws us : List ℕ} {setting : Setting} {path there : Path} {index : ℕ} {a : Atom} → Edge ws us path index a there → index ≤ count_of setting → Toward setting path.counter index → Onward us setting path there
edge_onward {setting = setting} {path} e inside toward = record { advanced = e.advanced; inside = omega (arith, e.counter); toward = rw e.counter toward }

module _ {ws us : List ℕ} (setting : Setting) {path there : Path} (credit : ℕ) (condition : NodeAtom) {target : ℕ}
    (g : RoomUp ws setting path) (inside : (path.counter < count_of setting) × (target < count_of setting)) (toward : Toward setting path.counter target)
    (n : NodeIn ws path credit) (e : Edge ws us path target (atom_in ws condition) there) where
  -- what the taken edge is followed with
  pub taken_room : length us ≡ length ws → RoomOn us setting there
  taken_room long = room_after setting g inside.0 (edge_onward e (omega (arith, inside.1)) toward) long

  pub taken_credit : NodeIn us there credit
  taken_credit = node_wider e.advanced.above e.advanced.more (node_held e.kept n)

  -- what comes of it
  module _ {vs : List ℕ} {p : Progress} (before : ℕ) {left : ℕ} where
    taken_kept : {r : Result Progress Refused} → Parts us vs setting (term_at us credit) (followed (term_at us credit) before (path_of us there)) there p left r → Kept ws vs path
    taken_kept w = kept_then e.kept (kept_lower e.advanced.listed e.advanced.above w.kept)

    taken : {r : Result Progress Refused} → Parts us vs setting (term_at us credit) (followed (term_at us credit) before (path_of us there)) there p left r
        → Parts us vs setting (term_at ws credit) (followed (term_at ws credit) before (assuming (path_to (path_of ws path) target) (atom_in ws condition))) there p left r
    taken w = rw (← node_equal e.kept n, ← e.means) w

    pub branch_stops : {x : Refused} → Parts us vs setting (term_at us credit) (followed (term_at us credit) before (path_of us there)) there p left (Err x)
        → BranchSteps ws vs setting (term_at ws credit) path condition target before left p (Err x)
    unfolding branch tracing goals
    branch_stops w = record {
      judged = λ policy routine s pending rest. (taken w).judged policy routine s (assuming (onward (path_of ws path)) (atom_in ws (opposite_of condition.kind condition.left condition.right)) ∷ pending) rest;
      kept = taken_kept w;
      leads = tt;
    }

    -- the other edge
    module _ {q : Progress} (w : Parts us vs setting (term_at us credit) (followed (term_at us credit) before (path_of us there)) there p left (Ok q)) (long : length vs ≡ length ws) where
      pub other_room : RoomFor vs path 1
      other_room = room_kept (taken_kept w) long (room_for_one setting g inside.0)

      module _ {opposite : NodeAtom} (o : opposite ≡ opposite_of condition.kind condition.left condition.right) (b : AtomBelow path.top condition) where
        pub other_below : AtomBelow path.top opposite
        other_below = opposite_below condition.kind o b

        opposite_same : atom_in vs opposite ≡ atom_in ws (opposite_of condition.kind condition.left condition.right)
        opposite_same = rw (term_same path.top (taken_kept w).table opposite.left other_below.0, term_same path.top (taken_kept w).table opposite.right other_below.1) (ap (atom_in ws) o)

        pub branch_goes : {xs : List ℕ} {on : Path} → Edge vs xs path (path.counter + 1) (atom_in vs opposite) on → BranchSteps ws xs setting (term_at ws credit) path condition target before left p (Ok (On on q))
        unfolding branch tracing goals
        branch_goes {xs} {on} f =
            let is : path_of xs on ≡ assuming (onward (path_of ws path)) (atom_in ws (opposite_of condition.kind condition.left condition.right)) =
            f.means ∙ ap₂ (λ (s : ModelPath) (a : Atom). assuming (onward s) a) (path_equal (taken_kept w) g.path_in) opposite_same in
            record {
              judged = λ policy routine s pending rest. rw is ((taken w).judged policy routine s (assuming (onward (path_of ws path)) (atom_in ws (opposite_of condition.kind condition.left condition.right)) ∷ pending) rest);
              kept = kept_then (taken_kept w) f.kept;
              leads = (edge_onward f (omega (arith, inside.0)) (λ h. omega arith), w.reached);
            }
