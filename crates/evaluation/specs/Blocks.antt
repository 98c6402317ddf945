-- What evaluating blocks owes. Assumes nothing.
use Rattle.std.specs.Prelude.{◌≡◌, List, ℕ, IfOk}
use Rattle.model.specs.Result.{Result, Ok, Err}
use Rattle.model.specs.Policy.{Policy}
use Rattle.model.specs.Routine.{Routine}
use Rattle.model.specs.Goals.{Trace, annotation_block, annotation_blocks}
use Rattle.model.specs.Verdict.{verdict, refusing}
use Rattle.model.specs.declared.Verdict.{Verdict}
use Rattle.forms.specs.Area.{Cleared}
use Rattle.annotations.specs.declared.reading.Annotated.{Annotated}
use Rattle.annotations.specs.Annotations.{Placed, annotation_at_place}
use Rattle.refusals.specs.declared.Refused.{Refused}
use Rattle.setting.specs.declared.Setting.{Setting}
use Rattle.setting.specs.Setting.{Stands}
use Rattle.goals.specs.Judging.{Reached, JudgesTrace}
use Rattle.goals.specs.declared.Progress.{Progress}

-- the trace is judged, and the words us are left for the next block
pub record TraceJudged (us : List ℕ) (setting : Setting) (trace : Policy → Routine → Trace) (p : Progress) (r : Result Progress Refused) : Type 0 where
  pub judged : (policy : Policy) (routine : Routine) → Stands setting policy routine → JudgesTrace setting.tables.routine.bytes.now policy (trace policy routine) p r
  pub cleared : Cleared us
  pub reached : IfOk r (Reached setting.tables.routine.bytes.now)

-- an annotation of the setting: there is one at its place, of that instruction
pub record Noted (setting : Setting) (x : Annotated) : Type 0 where
  pub placed : Placed setting.tables.routine.bytes.now setting.tables.routine.header x.at
  pub indexed : x.index ≡ (annotation_at_place setting.tables.routine.bytes.now setting.tables.routine.header x.at).index

-- its block
abbrev pub annotation_block_at : Setting → Annotated → Policy → Routine → Trace
annotation_block_at setting x policy routine = annotation_block policy routine (annotation_at_place setting.tables.routine.bytes.now setting.tables.routine.header x.at)

-- the blocks at all annotations
abbrev pub all_annotation_blocks : Policy → Routine → Trace
all_annotation_blocks policy routine = annotation_blocks policy routine routine.annotations

-- "0 is accepted, place 0"
unfoldable pub verdict_of : Result ℕ Refused → Verdict
verdict_of (Ok goals) = verdict 0 0 goals
verdict_of (Err x) = refusing x.refusal x.goals
