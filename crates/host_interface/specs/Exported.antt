-- What the exported functions leave in the caller's arrays. Assumes nothing.
use Rattle.std.specs.Prelude.{ℕ, ◌≡◌, List, [], ◌∷◌, length}
use Rattle.std.proofs.Math.ListN.{get_elem?}
use Rattle.model.specs.Runner.{Run}
use Rattle.model.specs.Package.{proof_section, finder_answer}
use Rattle.model.specs.Verdict.{check_of, workspace_after}
use Rattle.model.specs.Property.{Safe}
use Rattle.model.specs.Kept.{Protected}

-- the verdict's number, place and goals, what is left of the workspace, and property 3 where the number is 0
pub record CheckExported (before policy routine after answer : List ℕ) : Type 0 where
  pub words : answer ≡ (check_of (length before) policy routine).number ∷ (check_of (length before) policy routine).place ∷ (check_of (length before) policy routine).goals ∷ []
  pub left : after ≡ workspace_after before
  pub safe : (check_of (length before) policy routine).number ≡ 0 → Safe policy routine

-- the run's number, place and steps, and what it leaves in registers and memory: in a word that the policy does not make writable, what was there before
pub record RunExported (run : Run) (policy before registers memory answer : List ℕ) : Type 0 where
  pub words : answer ≡ run.outcome.number ∷ run.outcome.place ∷ run.outcome.steps ∷ []
  pub registers_left : registers ≡ run.registers
  pub memory_left : memory ≡ run.memory
  pub kept : (word : ℕ) → Protected policy word → get_elem? memory word ≡ get_elem? before word

-- the finder's number and place, and where the proof section starts; how long it is
pub record FindExported (bytes answer : List ℕ) (size : ℕ) : Type 0 where
  pub words : answer ≡ (finder_answer bytes).number ∷ (finder_answer bytes).place ∷ (proof_section bytes).start ∷ []
  pub long : size ≡ length (proof_section bytes).contents
