-- Laws of the blocks. Assumes nothing.
use mathlib.Core.Path.{◌≡◌, refl, sym, ap, ap₂, subst, ◌∙◌}
use mathlib.Core.Logic.{◌≢◌}
use borrow.Author.Tests.{eq-eqb, ne_eqb}
use mathlib.Core.List.{List, []}
use Prim.Native.Nat.{ℕ, ◌+◌, ◌<◌, ◌≤◌}
use native.Mathlib.Omega.{arith}
use native.Mathlib.Numerals.{add-one}
use lib.ListN.{length, get_or, drop, drop_of_length-le}
use lib.Seq.{drop-cons}
use Rattle.model.specs.Result.{Result, Ok, Err}
use Rattle.model.specs.Term.{Term, constant}
use Rattle.model.specs.Policy.{Policy}
use Rattle.model.specs.Routine.{Routine}
use Rattle.model.specs.Package.{proof_start}
use Rattle.model.specs.Annotation.{Annotation}
use Rattle.model.specs.Goals.{Trace, finish, append, block_start, most_visits, follow, entry_block, annotation_block, annotation_blocks, trace_of}
use Rattle.model.specs.Verdict.{least_workspace, judge}
use Rattle.model.specs.declared.Refusal.TheVariants.{ProofLeft}
use Rattle.model.specs.Atom.{most_atoms}
use Rattle.nodes.specs.Table.{term_at}
use Rattle.forms.specs.Area.{Cleared}
use Rattle.annotations.specs.declared.reading.Annotated.{Annotated}
use Rattle.annotations.specs.Annotations.{annotation_at_place}
use Rattle.annotations.proofs.Facts.{Laid, laid_at}
use Rattle.refusals.specs.declared.Refused.{Refused}
use Rattle.setting.specs.declared.Setting.{Setting}
use Rattle.setting.specs.Setting.{Stands}
use Rattle.setting.proofs.Standing.{limit_stands, precondition_stands, annotations_long, annotation_in, index_in, placed_in}
use Rattle.goals.specs.Judging.{Reached, verdict_after, JudgesTrace}
use Rattle.goals.specs.declared.Progress.{Progress}
use Rattle.goals.proofs.Judging.{trace_end, trace_stopped, trace_both, trace_whole}
use Rattle.paths.specs.Walking.{path_of}
use Rattle.blocks.specs.Starting.{Workspace, BlockIn, EntryBlock, AnnotationBlock}
use Rattle.blocks.specs.declared.Block.{Block}
use Rattle.paths.specs.declared.Path.{Path}
use Rattle.walks.specs.Walks.{count_of, RoomUp, RoomOn, Part, walked, followed, verdict_parted, Parts}
use Rattle.evaluation.specs.Blocks.{TraceJudged, Noted, annotation_block_at, all_annotation_blocks, verdict_of}

-- ---- what comes of the part of a block that is all of it
-- no path is pending
none_pending : (bytes : List ℕ) (policy : Policy) (routine : Routine) (credit : Term) (r : Result Progress Refused) (visits : ℕ) (rest : Trace) → verdict_parted bytes policy routine credit r visits [] rest ≡ verdict_after bytes policy r rest
unfolding follow append
none_pending bytes policy routine credit (Ok q) visits rest = refl
none_pending bytes policy routine credit (Err x) visits rest = refl

-- a trace is judged that a part is where no path is pending
pub part_judged : {us vs : List ℕ} {setting : Setting} {credit : Term} {part : Part} {path : Path} {p : Progress} {visits : ℕ} {r : Result Progress Refused} {trace : Policy → Routine → Trace}
    → ((policy : Policy) (routine : Routine) → Stands setting policy routine → part policy routine [] ≡ trace policy routine) → Cleared us → Parts us vs setting credit part path p visits r → TraceJudged vs setting trace p r
part_judged {setting = setting} {credit} {part} {path} {p} {visits} {r} same c w = record {
  judged = λ policy routine s. record {
    says = λ rest.
        ap (λ (t : Trace). judge setting.tables.routine.bytes.now policy (append t rest) p.at p.goals) (sym (same policy routine s))
        ∙ w.judged policy routine s [] rest
        ∙ none_pending setting.tables.routine.bytes.now policy routine credit r visits rest;
  };
  cleared = record { word = λ k h. w.kept.low.word k (omega arith) (omega arith) ∙ c.word k h };
  reached = w.reached;
}

-- ---- the room of a block's path
module _ {us : List ℕ} (setting : Setting) {index : ℕ} {b : Block} (words : least_workspace ≤ length us) (inside : index ≤ count_of setting) (start : BlockIn us index b) where
  pub block_up : RoomUp us setting b.path
  block_up = record {
    words = words;
    path_in = start.inside;
    nodes = omega (arith, start.few, setting.tables.routine.fits.few);
    assumed = omega (arith, start.more, setting.tables.routine.fits.few);
    loaded = omega (arith, start.variables, setting.tables.routine.fits.few);
    run = omega (arith, start.steps, setting.tables.routine.fits.few);
    within = omega (arith, start.counter, inside, setting.tables.routine.fits.few);
  }

  pub block_on : RoomOn us setting b.path
  block_on = record {
    stops = record { words = words; path_in = start.inside; nodes = omega (arith, start.few); assumed = omega (arith, start.more); loaded = omega (arith, start.variables); run = omega (arith, start.steps); within = omega (arith, start.counter, inside, setting.tables.routine.fits.few) };
    inside = omega (arith, start.counter, inside);
    goes_on = λ _. block_up;
  }

-- ---- the block at instruction 0
module _ {us : List ℕ} (setting : Setting) {b : Block} (start : EntryBlock us setting.conditions.now setting.policy.precondition setting.policy.limit b) where
  -- its path and its credit
  entry_path : {policy : Policy} {routine : Routine} → Stands setting policy routine → path_of us b.path ≡ block_start 0 policy.precondition
  entry_path s = start.is _ _ (precondition_stands setting s)

  entry_credit : {policy : Policy} {routine : Routine} → Stands setting policy routine → term_at us b.credit ≡ constant policy.limit
  entry_credit s = start.credit ∙ ap constant (sym (limit_stands setting s))

  pub entry_follows : {vs : List ℕ} {p : Progress} {visits : ℕ} {r : Result Progress Refused} → Parts us vs setting (term_at us b.credit) (followed (term_at us b.credit) most_visits (path_of us b.path)) b.path p visits r → TraceJudged vs setting entry_block p r
  unfolding entry_block
  entry_follows = part_judged (λ policy routine s. rw (entry_path s, entry_credit s)) start.block.inside.prepared.cleared

-- ---- the block at an annotation
pub noted_at : (setting : Setting) (k : ℕ) (other : Annotated) → k < length setting.tables.annotations.now → Noted setting (get_or setting.tables.annotations.now k other)
noted_at setting k other h = record { placed = placed_in setting.tables.annotations_fit k other h; indexed = index_in setting.tables.annotations_fit k other h }

module _ {setting : Setting} {x : Annotated} (n : Noted setting x) where
  note_laid : Laid setting.tables.routine.bytes.now setting.tables.routine.header x.at (annotation_at_place setting.tables.routine.bytes.now setting.tables.routine.header x.at) n.placed.next
  note_laid = laid_at setting.tables.routine.bytes.now setting.tables.routine.header n.placed

  pub note_asks : (x.at + 2 < proof_start setting.tables.routine.header) × (get_or setting.tables.routine.bytes.now (x.at + 2) 0 ≤ most_atoms)
  note_asks = (omega (arith, note_laid.inside), note_laid.few)

  pub index_below : x.index < setting.tables.routine.header.instructions
  index_below = rw n.indexed note_laid.below

  module _ {us : List ℕ} {b : Block} (start : AnnotationBlock us setting.tables.routine.bytes.now (proof_start setting.tables.routine.header) x b) where
    pub note_walks : {vs : List ℕ} {p : Progress} {visits : ℕ} {r : Result Progress Refused} → Parts us vs setting (term_at us b.credit) (walked (term_at us b.credit) most_visits (path_of us b.path)) b.path p visits r
        → TraceJudged vs setting (annotation_block_at setting x) p r
    unfolding annotation_block
    note_walks =
        let said = start.is (annotation_at_place setting.tables.routine.bytes.now setting.tables.routine.header x.at) note_laid.after n.placed.next note_laid.credit note_laid.atoms in
        part_judged (λ policy routine s. rw (← n.indexed, said.0, said.1)) start.block.inside.prepared.cleared

-- ---- the blocks at the annotations
-- k of them are judged, and what comes of all is what comes of those that are left
pub record Passed (ws : List ℕ) (setting : Setting) (start p : Progress) (k : ℕ) : Type 0 where
  pub rest : (policy : Policy) (routine : Routine) → Stands setting policy routine → (r : Result Progress Refused)
      → JudgesTrace setting.tables.routine.bytes.now policy (annotation_blocks policy routine (drop k routine.annotations)) p r → JudgesTrace setting.tables.routine.bytes.now policy (annotation_blocks policy routine routine.annotations) start r
  pub reached : Reached setting.tables.routine.bytes.now p
  pub workspace : Workspace ws

module _ {setting : Setting} {start : Progress} where
  module _ {ws : List ℕ} {p : Progress} {k : ℕ} (passed : Passed ws setting start p k) where
    module _ (other : Annotated) (h : k < length setting.tables.annotations.now) where
      -- what is left begins with the block at annotation k
      left_blocks : {policy : Policy} {routine : Routine} → Stands setting policy routine
          → append (annotation_block_at setting (get_or setting.tables.annotations.now k other) policy routine) (annotation_blocks policy routine (drop (k + 1) routine.annotations)) ≡ annotation_blocks policy routine (drop k routine.annotations)
      unfolding annotation_blocks
      left_blocks {policy} {routine} s =
          let long : length routine.annotations ≡ length setting.tables.annotations.now = ap length s.annotations_are ∙ annotations_long setting.tables.annotations_fit in
          let none : Annotation = annotation_at_place setting.tables.routine.bytes.now setting.tables.routine.header 0 in
          let here : get_or routine.annotations k none ≡ annotation_at_place setting.tables.routine.bytes.now setting.tables.routine.header (get_or setting.tables.annotations.now k other).at = ap (λ l. get_or l k none) s.annotations_are ∙ annotation_in setting.tables.annotations_fit k none other h in
          sym (ap (annotation_blocks policy routine) (drop-cons routine.annotations k none (omega arith))
          ∙ ap₂ (λ (a : Annotation) (n : ℕ). append (annotation_block policy routine a) (annotation_blocks policy routine (drop n routine.annotations))) here (sym (add-one k)))

      module _ {us : List ℕ} where
        pub block_stops : {x : Refused} → TraceJudged us setting (annotation_block_at setting (get_or setting.tables.annotations.now k other)) p (Err x) → TraceJudged us setting all_annotation_blocks start (Err x)
        block_stops {x} t = record {
          judged = λ policy routine s. passed.rest policy routine s (Err x) (subst (λ (u : Trace). JudgesTrace setting.tables.routine.bytes.now policy u p (Err x)) (left_blocks s) (trace_stopped _ (t.judged policy routine s)));
          cleared = t.cleared;
          reached = tt;
        }

        pub block_passes : {q : Progress} → TraceJudged us setting (annotation_block_at setting (get_or setting.tables.annotations.now k other)) p (Ok q) → length us ≡ length ws → Passed us setting start q (k + 1)
        block_passes t long = record {
          rest = λ policy routine s r j. passed.rest policy routine s r (subst (λ (u : Trace). JudgesTrace setting.tables.routine.bytes.now policy u p r) (left_blocks s) (trace_both (t.judged policy routine s) j));
          reached = t.reached;
          workspace = record { words = omega (arith, passed.workspace.words); cleared = t.cleared };
        }

    pub blocks_end : length setting.tables.annotations.now ≤ k → TraceJudged ws setting all_annotation_blocks start (Ok p)
    unfolding annotation_blocks
    blocks_end h = record {
      judged = λ policy routine s.
          let long : length routine.annotations ≡ length setting.tables.annotations.now = ap length s.annotations_are ∙ annotations_long setting.tables.annotations_fit in
          let none_left : drop k routine.annotations ≡ [] = drop_of_length-le routine.annotations {i = k} (omega arith) in
          passed.rest policy routine s (Ok p) (rw none_left trace_end);
      cleared = passed.workspace.cleared;
      reached = passed.reached;
    }

-- ---- all blocks
module _ {us : List ℕ} {setting : Setting} {p : Progress} where
  pub entry_stops : {x : Refused} → TraceJudged us setting entry_block p (Err x) → TraceJudged us setting trace_of p (Err x)
  unfolding trace_of
  entry_stops t = record { judged = λ policy routine s. trace_stopped _ (t.judged policy routine s); cleared = t.cleared; reached = tt }

  pub entry_then : {vs : List ℕ} {q : Progress} {r : Result Progress Refused} → TraceJudged us setting entry_block p (Ok q) → TraceJudged vs setting all_annotation_blocks q r → TraceJudged vs setting trace_of p r
  unfolding trace_of
  entry_then t a = record { judged = λ policy routine s. trace_both (t.judged policy routine s) (a.judged policy routine s); cleared = a.cleared; reached = a.reached }

-- ---- the answer
module _ {us : List ℕ} {setting : Setting} {at : ℕ} (e : at ≡ proof_start setting.tables.routine.header) where
  judged_whole : {r : Result Progress Refused} → TraceJudged us setting trace_of (record { at = at; goals = 0 }) r → (policy : Policy) (routine : Routine) → Stands setting policy routine
      → verdict_after setting.tables.routine.bytes.now policy r finish ≡ judge setting.tables.routine.bytes.now policy (trace_of policy routine) routine.proof 0
  judged_whole t policy routine s = sym (trace_whole (t.judged policy routine s)) ∙ ap (λ n. judge setting.tables.routine.bytes.now policy (trace_of policy routine) n 0) (e ∙ sym s.proof_is)

  pub answer_refused : {x : Refused} → TraceJudged us setting trace_of (record { at = at; goals = 0 }) (Err x) → (policy : Policy) (routine : Routine) → Stands setting policy routine
      → verdict_of (Err x) ≡ judge setting.tables.routine.bytes.now policy (trace_of policy routine) routine.proof 0
  unfolding verdict_of
  answer_refused t = judged_whole t

  module _ {q : Progress} (t : TraceJudged us setting trace_of (record { at = at; goals = 0 }) (Ok q)) (policy : Policy) (routine : Routine) (s : Stands setting policy routine) where
    pub answer_left : q.at ≢ length setting.tables.routine.bytes.now → verdict_of (Err (record { refusal = ProofLeft q.at; goals = q.goals })) ≡ judge setting.tables.routine.bytes.now policy (trace_of policy routine) routine.proof 0
    unfolding verdict_of judge
    answer_left n = rw (← judged_whole t policy routine s, ne_eqb q.at (length setting.tables.routine.bytes.now) n, judge)

    pub answer_accepted : q.at ≡ length setting.tables.routine.bytes.now → verdict_of (Ok q.goals) ≡ judge setting.tables.routine.bytes.now policy (trace_of policy routine) routine.proof 0
    unfolding verdict_of judge
    answer_accepted n = rw (← judged_whole t policy routine s, eq-eqb q.at (length setting.tables.routine.bytes.now) n, judge)
