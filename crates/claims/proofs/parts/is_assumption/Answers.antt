use Rattle.std.proofs.Common.{refl, sym, ◌∙◌}
use Rattle.claims.proofs.PartLaws.{assumption_is}
use Rattle.claims.proofs.parts.is_assumption.Goals as goal
use Rattle.claims.proofs.parts.is_assumption.Goals.{then-eq, else-eq}

pub returns-then-equal : goal.returns-then-equal
returns-then-equal c =
    elim c.if-eq.branch [
      | then-eq w ↦ assumption_is _ _ c.get-known.ensures _ (sym w.if-eq.true ∙ c.eq.ensures) (sym c.if-equal.true ∙ w.value-is ∙ w.equal.ensures) c.equal-then-equal.ensures
      | else-eq w ↦ absurd cc
    ]

pub returns-else-equal : goal.returns-else-equal
returns-else-equal c =
    elim c.if-eq.branch [
      | then-eq w ↦ c.if-equal.false ∙ assumption_is _ _ c.get-known.ensures _ (sym w.if-eq.true ∙ c.eq.ensures) (sym c.if-equal.false ∙ w.value-is ∙ w.equal.ensures) refl
      | else-eq w ↦ c.if-equal.false ∙ assumption_is _ _ c.get-known.ensures _ (sym w.if-eq.false ∙ c.eq.ensures) refl refl
    ]
