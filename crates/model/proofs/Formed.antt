-- A policy and a routine as the walk of a block needs them, and the annotation at an index. Assumes nothing.
use Prim.Native.Nat.{ℕ, ◌≤◌, ◌<◌, ◌^◌}
use mathlib.Core.Bool.{Bool, true, false}
use mathlib.Core.List.{List, [], ◌∷◌}
use mathlib.Core.Option.{some, Option}
use mathlib.Core.Path.{◌≡◌, refl, subst}
use native.Mathlib.Omega.{arith}
use lib.Dec.{eqb}
use lib.ListN.{length}
use borrow.Author.Tests.{eqb-true}
use Rattle.model.specs.Annotation.{Annotation, annotation_at}
use Rattle.model.specs.Package.{most_instructions}
use Rattle.model.specs.Routine.{Routine}
use Rattle.model.specs.declared.Instruction.{Instruction}
use Rattle.model.specs.declared.Instruction.TheVariants.{Set, Add, AddImmediate, Subtract, Load, Store, Jump, JumpLess, JumpEqual, Return, Mask, Shift}
use Rattle.model.proofs.Lists.{Every, ◌&◌}
use Rattle.model.proofs.Terms.{RegisterAtom, RegisterTerm}

-- what goes into a register as it stands is a word
unfoldable pub WordInstruction : Instruction → Type 0
WordInstruction (Set d i) = i < 2 ^ 32
WordInstruction (Add d a b) = Unit
WordInstruction (AddImmediate d a i) = Unit
WordInstruction (Subtract d a b) = Unit
WordInstruction (Load d a i) = Unit
WordInstruction (Store d a i) = Unit
WordInstruction (Jump i) = Unit
WordInstruction (JumpLess a b i) = Unit
WordInstruction (JumpEqual a b i) = Unit
WordInstruction Return = Unit
WordInstruction (Mask d a i) = i < 2 ^ 32
WordInstruction (Shift d a i) = Unit

pub record FormedAnnotation (a : Annotation) : Type 0 where
  pub credit : RegisterTerm a.credit
  pub atoms : Every RegisterAtom a.atoms

pub record FormedRoutine (routine : Routine) : Type 0 where
  pub few : length routine.code ≤ most_instructions
  pub code : Every WordInstruction routine.code
  pub annotations : Every FormedAnnotation routine.annotations

-- ---- the annotation at an index

-- what holds of every annotation holds of the one that is found, and it stands at that index
pub found_at : {P : Annotation → Type 0} (annotations : List Annotation) (i : ℕ) {a : Annotation} → Every P annotations
    → annotation_at annotations i ≡ some a → P a × (a.index ≡ i)
unfolding annotation_at
found_at [] i h e = let z : ◌≡◌ {A = ℕ} 0 1 = cc in absurd (omega arith)
found_at {P} (b ∷ rest) i {a} (p & h) e = go (eqb b.index i) refl (found_at rest i h) e
  where
    go : (t : Bool) → eqb b.index i ≡ t → (annotation_at rest i ≡ some a → P a × (a.index ≡ i))
        → (elim t as (λ (t : Bool). Option Annotation) [ true ↦ some b | false ↦ annotation_at rest i ]) ≡ some a → P a × (a.index ≡ i)
    go true test later q =
        let r : b ≡ a = cc in
        subst (λ (x : Annotation). P x × (x.index ≡ i)) r (p, eqb-true b.index i test)
    go false test later q = later q
