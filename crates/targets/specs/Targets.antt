-- What check 12 promises, for the code and the annotations that were read. Assumes nothing.
use Rattle.std.specs.Prelude.{◌≡◌, Bool, true, List, ℕ, ◌<◌, get_or, eqb, None, Some, IfOk}
use Rattle.std.specs.List.{position_from}
use Rattle.model.specs.Result.{Result, Ok, check}
use Rattle.model.specs.Instruction.{target_of}
use Rattle.model.specs.Package.{read_code}
use Rattle.model.specs.Annotation.{Annotation}
use Rattle.model.specs.Routine.{target_allowed, targets_allowed}
use Rattle.model.specs.declared.Header.{Header}
use Rattle.model.specs.declared.Instruction.{Instruction}
use Rattle.model.specs.declared.Instruction.TheVariants.{Return}
use Rattle.model.specs.declared.Refusal.{Refusal}
use Rattle.model.specs.declared.Refusal.TheVariants.{Unannotated}
use Rattle.routine.specs.Code.{instruction_at}
use Rattle.annotations.specs.declared.reading.Annotated.{Annotated}
use Rattle.annotations.specs.Annotations.{indexes_of, indexes_in}

-- where the jump at an index, if it is one, goes to an index that is not listed, that is a higher one
abbrev pub Ahead : List Annotated → (index : ℕ) → Instruction → Type 0
Ahead list index x = (t : ℕ) → target_of x ≡ Some t → position_from (λ a. eqb a.index t) 0 list ≡ None → index < t

-- the same of the instruction that stands at the index
abbrev pub AheadAt : (bytes : List ℕ) → Header → List Annotated → (index : ℕ) → Type 0
AheadAt bytes h list index = (x : Instruction) → instruction_at bytes h index ≡ Ok x → Ahead list index x

-- of all instructions
abbrev pub AllAhead : (bytes : List ℕ) → Header → List Annotated → Type 0
AllAhead bytes h list = (index : ℕ) → index < h.instructions → AheadAt bytes h list index

-- for the annotations whose indexes are listed
pub record TargetAllowed (list : List Annotated) (index : ℕ) (x : Instruction) (r : Bool) : Type 0 where
  pub is : (annotations : List Annotation) → indexes_in list ≡ indexes_of annotations → r ≡ target_allowed annotations index x
  pub ahead : r ≡ true → Ahead list index x

-- the instruction at one index
pub record TargetMet (bytes : List ℕ) (h : Header) (list : List Annotated) (index : ℕ) (r : Result (Unit {0}) Refusal) : Type 0 where
  pub is : (code : List Instruction) (annotations : List Annotation) → read_code bytes h ≡ Ok code → indexes_in list ≡ indexes_of annotations
      → r ≡ check (target_allowed annotations index (get_or code index Return)) (Unannotated index)
  pub ahead : IfOk r (λ _. AheadAt bytes h list index)

-- all instructions
pub record TargetsMet (bytes : List ℕ) (h : Header) (list : List Annotated) (r : Result (Unit {0}) Refusal) : Type 0 where
  pub is : (code : List Instruction) (annotations : List Annotation) → read_code bytes h ≡ Ok code → indexes_in list ≡ indexes_of annotations
      → r ≡ targets_allowed annotations 0 code
  pub ahead : IfOk r (λ _. AllAhead bytes h list)
