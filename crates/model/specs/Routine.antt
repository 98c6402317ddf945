-- A package that passes checks 7 to 12. Assumes nothing.
use Rattle.std.specs.Prelude.{ℕ, ◌+◌, Bool, true, false, ◌||◌, List, [], ◌∷◌, None, Some, ltb}
use Rattle.std.proofs.Math.Option.{none, some}
use Rattle.model.specs.Result.{Result, Ok, ◌>>=◌, check}
use Rattle.model.specs.Instruction.{target_of}
use Rattle.model.specs.Package.{read_header, read_code, proof_start}
use Rattle.model.specs.Annotation.{Annotation, annotation_at, read_annotations}
use Rattle.model.specs.declared.Instruction.{Instruction}
use Rattle.model.specs.declared.Refusal.{Refusal}
use Rattle.model.specs.declared.Refusal.TheVariants.{Unannotated}

pub record Routine : Type 0 where
  pub code : List Instruction
  pub annotations : List Annotation
  pub proof : ℕ

-- an annotated index
unfoldable pub annotated : List Annotation → (index : ℕ) → Bool
annotated annotations index = elim (annotation_at annotations index) [ none ↦ false | some a ↦ true ]

-- "A jump to a higher index may now go to an unannotated instruction": the jump of the instruction at an index, if it is one
unfoldable pub target_allowed : List Annotation → (index : ℕ) → Instruction → Bool
target_allowed annotations index instruction =
    elim (target_of instruction) [ None ↦ true | Some t ↦ ltb index t || annotated annotations t ]

-- "refusal 12 is for targets at or below the jump's own index" (index of the first such jump): the instructions from an index on
unfoldable pub targets_allowed : List Annotation → (index : ℕ) → List Instruction → Result (Unit {0}) Refusal
targets_allowed annotations index [] = Ok tt
targets_allowed annotations index (instruction ∷ rest) = do
  _ ← check (target_allowed annotations index instruction) (Unannotated index)
  targets_allowed annotations (index + 1) rest

-- "Checks run in number order"
unfoldable pub read_routine : List ℕ → Result Routine Refusal
read_routine bytes = do
  h ← read_header bytes
  code ← read_code bytes h
  annotations ← read_annotations bytes h
  _ ← targets_allowed annotations 0 code
  Ok (record { code = code; annotations = annotations; proof = proof_start h })
