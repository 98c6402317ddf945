-- What checks 3 to 6, 10 and 11 have shown, as facts on numbers. Assumes nothing.
use Rattle.std.specs.Prelude.{◌≡◌, ℕ, ◌+◌, ◌≤◌, true, List, length, is_ok}
use Rattle.std.specs.List.{All}
use Rattle.model.specs.Result.{Ok}
use Rattle.model.specs.Atom.{most_atoms}
use Rattle.model.specs.Policy.{most_memory}
use Rattle.model.specs.Annotation.{annotation_from}
use Rattle.model.specs.declared.Header.{Header}
use Rattle.expressions.specs.Reading.{ends}
use Rattle.policy.specs.declared.Condition.{Condition}
use Rattle.policy.specs.declared.Policy.{Policy}
use Rattle.policy.specs.Conditions.{condition_at}
use Rattle.policy.specs.Policy.{listed}
use Rattle.annotations.specs.declared.reading.Annotated.{Annotated}
use Rattle.annotations.specs.Annotations.{annotations_at, indexes_of, indexes_in}

-- a condition ends there
abbrev pub Ends : (conditions : List ℕ) → Condition → (next : ℕ) → Type 0
Ends conditions c next = Ok next ≡ ends (condition_at conditions c.atoms c.at)

-- of a policy with these bytes
pub record PolicyFits (conditions : List ℕ) (p : Policy) : Type 0 where
  pub small_memory : p.memory ≤ most_memory
  pub few_precondition : p.precondition.atoms ≤ most_atoms
  pub few_postcondition : p.postcondition.atoms ≤ most_atoms
  pub precondition_ends : Ends conditions p.precondition p.postcondition.at
  pub postcondition_ends : Ends conditions p.postcondition (length conditions)
  pub whole : length (listed p.regions) ≡ p.regions.count
  pub fits : All (λ r. r.base + r.size ≤ p.memory) (listed p.regions)

-- of a list of annotations
pub record AnnotationsFit (bytes : List ℕ) (h : Header) (list : List Annotated) : Type 0 where
  pub long : length list ≡ h.annotations
  pub indexed : indexes_in list ≡ indexes_of (annotations_at bytes h list)
  pub placed : All (λ x. is_ok (annotation_from bytes h 0 x.at) ≡ true) list
