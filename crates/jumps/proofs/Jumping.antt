-- Laws of arrivals, jumps, branches and returns. Assumes nothing.
use mathlib.Core.Path.{◌≡◌, refl, sym, ap, subst, ◌∙◌}
use mathlib.Core.Option.{some}
use mathlib.Core.List.{List, []}
use Prim.Native.Nat.{ℕ, ◌+◌, ◌<◌}
use native.Mathlib.Omega.{arith}
use lib.ListN.{get_or}
use lib.Dec.{eqb}
use Rattle.std.specs.Prelude.{Option, None, Some}
use Rattle.std.specs.List.{position_from}
use Rattle.model.specs.Term.{Term}
use Rattle.model.specs.Atom.{Atom}
use Rattle.model.specs.Result.{Result, Ok, Err}
use Rattle.model.specs.Policy.{Policy}
use Rattle.model.specs.Package.{proof_start}
use Rattle.model.specs.Routine.{Routine}
use Rattle.model.specs.Annotation.{Annotation, annotation_at}
use Rattle.model.specs.Goals.{Path as ModelPath, Move, goes, arrival, returning, assuming}
use Rattle.model.specs.declared.Comparison.{Comparison}
use Rattle.model.specs.declared.Comparison.TheVariants.{Equal, Unequal, Less, AtMost}
use Rattle.workspace.specs.Layout.{table_base, Same}
use Rattle.nodes.specs.Atoms.{AtomBelow}
use Rattle.nodes.specs.Table.{place}
use Rattle.nodes.specs.declared.Atom.{Atom as NodeAtom}
use Rattle.workspace.proofs.Frames.{same_refl}
use Rattle.assumptions.specs.Area.{slot}
use Rattle.annotations.specs.declared.reading.Annotated.{Annotated}
use Rattle.annotations.specs.Annotations.{Placed, annotation_at_place}
use Rattle.annotations.proofs.Facts.{Laid, laid_at}
use Rattle.setting.specs.declared.Tables.{Tables}
use Rattle.setting.specs.Setting.{TablesStand}
use Rattle.setting.proofs.Standing.{placed_in, found_inside, found_there, found_nowhere}
use Rattle.goals.specs.Judging.{Judges}
use Rattle.paths.specs.Walking.{path_of, PathIn, stepped_to}
use Rattle.arrivals.specs.Arriving.{ArrivalJudged, ReturnJudged}
use Rattle.blocks.specs.Starting.{assumed_path, Assumed}
use Rattle.paths.specs.declared.Path.{Path}
use Rattle.refusals.specs.declared.Refused.{Refused}
use Rattle.goals.specs.declared.Progress.{Progress}
use Rattle.moves.specs.declared.Moved.TheVariants.{Ended}
use Rattle.model.specs.declared.Region.{Region}
use Rattle.policy.specs.declared.Condition.{Condition}
use Rattle.jumps.specs.Jumps.{opposite_of, Returning, Edge, Arrives}
use Rattle.moves.specs.Moves.{RoomFor, Moves}
use Rattle.moves.proofs.Moving.{move_ended, move_stopped}
use Rattle.paths.proofs.Kept.{kept_same}
use Rattle.moves.proofs.PathLaws.{path_stepped}

-- ---- arrivals
module _ (tables : Tables) (index : ℕ) {found : Option ℕ} (e : found ≡ position_from (λ (a : Annotated). eqb a.index index) 0 tables.annotations.now) {k : ℕ} (f : found ≡ Some k) (there : Annotated) where
  abbrev found_at : ℕ
  found_at = (get_or tables.annotations.now k there).at

  found_placed : Placed tables.routine.bytes.now tables.routine.header found_at
  found_placed = placed_in tables.annotations_fit k there (found_inside tables.annotations_fit index e f)

  -- the annotation there, whose head ends before the proof
  found_laid : Laid tables.routine.bytes.now tables.routine.header found_at (annotation_at_place tables.routine.bytes.now tables.routine.header found_at) found_placed.next
  found_laid = laid_at tables.routine.bytes.now tables.routine.header found_placed

  pub found_before_proof : found_at + 2 < proof_start tables.routine.header
  found_before_proof = omega (arith, found_laid.inside)

module _ {ws : List ℕ} {tables : Tables} {path : Path} {p : Progress} {credit : Term} {found : Option ℕ} (e : found ≡ position_from (λ (a : Annotated). eqb a.index path.counter) 0 tables.annotations.now) where
  pub arrived_nowhere : found ≡ None → Arrives ws ws tables credit path p (Ok None)
  arrived_nowhere f = record {
    judged = λ policy routine s. rw s.annotations_are (found_nowhere tables.annotations_fit path.counter e f);
    nowhere = λ _. sym e ∙ f;
    kept = same_refl _ _ _;
    reached = tt;
  }

  module _ {us : List ℕ} {k : ℕ} (f : found ≡ Some k) (there : Annotated) where
    -- the goals of the annotation that is found
    arrived_as : {r : Result Progress Refused} → ArrivalJudged ws us tables.routine.bytes.now tables.regions.now path p r credit (proof_start tables.routine.header) (get_or tables.annotations.now k there).at
        → (policy : Policy) (routine : Routine) → TablesStand tables policy routine
        → (note : Annotation) × (annotation_at routine.annotations path.counter ≡ some note) × Judges tables.routine.bytes.now policy (arrival (path_of ws path) credit note) p r
    arrived_as j policy routine s =
        let laid = found_laid tables path.counter e f there in (
          annotation_at_place tables.routine.bytes.now tables.routine.header (get_or tables.annotations.now k there).at,
          rw s.annotations_are (found_there tables.annotations_fit path.counter e there f),
          j.judges policy s.regions_are _ laid.after (found_placed tables path.counter e f there).next laid.credit laid.atoms,
        )

    pub arrived_at : {q : Progress} → ArrivalJudged ws us tables.routine.bytes.now tables.regions.now path p (Ok q) credit (proof_start tables.routine.header) (get_or tables.annotations.now k there).at → Arrives ws us tables credit path p (Ok (Some q))
    arrived_at j = record { judged = arrived_as j; nowhere = λ h. absurd (cc); kept = j.left.kept; reached = j.left.reached }

    pub arrival_stopped : {y : Refused} → ArrivalJudged ws us tables.routine.bytes.now tables.regions.now path p (Err y) credit (proof_start tables.routine.header) (get_or tables.annotations.now k there).at → Arrives ws us tables credit path p (Err y)
    arrival_stopped j = record { judged = arrived_as j; nowhere = λ h. absurd (cc); kept = j.left.kept; reached = tt }

-- ---- returns
abbrev returned : (s : ModelPath) (credit : Term) → Policy → Routine → Move
returned s credit policy routine = goes (returning s credit policy.postcondition) []

module _ {ws us bytes conditions : List ℕ} {regions : List Region} {condition : Condition} {path : Path} {p : Progress} {credit : Term} (g : RoomFor ws path 1) where
  pub return_ended : {q : Progress} → ReturnJudged ws us bytes regions path p (Ok q) credit conditions condition → Moves ws us bytes (Returning conditions condition regions) credit (returned (path_of ws path) credit) path p (Ok (Ended q))
  return_ended r = record {
    judged = λ policy routine s. move_ended (r.judges policy s.0 policy.postcondition _ s.1.1);
    kept = kept_same path (omega (arith, g.assumed)) r.left.kept;
    leads = r.left.reached;
  }

  pub return_stopped : {x : Refused} → ReturnJudged ws us bytes regions path p (Err x) credit conditions condition → Moves ws us bytes (Returning conditions condition regions) credit (returned (path_of ws path) credit) path p (Err x)
  return_stopped r = record {
    judged = λ policy routine s. move_stopped [] (r.judges policy s.0 policy.postcondition _ s.1.1);
    kept = kept_same path (omega (arith, g.assumed)) r.left.kept;
    leads = tt;
  }

-- ---- branches
-- the nodes of a comparison's opposite
pub opposite_below : (kind : Comparison) {left right top : ℕ} {o : NodeAtom} → o ≡ opposite_of kind left right → (left < top) × (right < top) → AtomBelow top o
opposite_below Equal e h = rw e h
opposite_below Unequal e h = rw e h
opposite_below Less e h = rw e (h.1, h.0)
opposite_below AtMost e h = rw e (h.1, h.0)

-- the path on which a comparison is assumed
pub stepped_in : {ws : List ℕ} {path stepped : Path} {i : ℕ} → RoomFor ws path 1 → stepped ≡ stepped_to path i → PathIn ws stepped
stepped_in {i = i} g e = rw e (path_stepped g.path_in i (omega (arith, g.run)))

pub edge_made : {ws us : List ℕ} {path stepped after : Path} {a : Atom} {i : ℕ} → RoomFor ws path 1 → stepped ≡ stepped_to path i → Assumed ws us stepped a after → Edge ws us path i a after
edge_made {ws} {us} {path} {a = a} {i} g e u =
    let form = u.form ∙ ap assumed_path e in
    record {
      means = u.is ∙ ap (λ (q : Path). assuming (path_of ws q) a) e;
      advanced = rw form (record {
        path_in = subst (PathIn us) form u.inside;
        steps = refl;
        above = omega arith;
        nodes = omega arith;
        more = omega arith;
        variables = omega arith;
        listed = omega arith;
        assumptions = omega arith;
      });
      counter = ap (λ (q : Path). q.counter) form;
      kept = record {
        low = subst (λ (q : Path). Same 0 (slot q.assumptions) ws us) e u.low;
        table = subst (λ (q : Path). Same table_base (place q.top) ws us) e u.table;
      };
    }
