use Rattle.model.specs.Rule.{congruent, equal_pairs}
use Rattle.model_laws.proofs.Steps.{check_fails, check_passes, goes_on, stops}
use Rattle.nodes.proofs.Table.{node_built}
use Rattle.std.proofs.Common.{eq-eqb, ne_eqb, refl}
use Rattle.claims.proofs.PartLaws.{is_misfit, not_operation, pair_congruent}
use Rattle.claims.proofs.parts.same_operation.Goals as goal

pub returns-in_err-c-in-Pair-clause-is : goal.returns-in_err-c-in-Pair-clause-is
unfolding equal_pairs
returns-in_err-c-in-Pair-clause-is c = rw (is_misfit c.from_residual.ensures.0, pair_congruent c.requires.left_formed c.in-Pair.ensures) (stops _ c.in_err-c-in-Pair.ensures.is)

pub returns-in_ok-c-in-Pair-clause-is : goal.returns-in_ok-c-in-Pair-clause-is
unfolding equal_pairs
returns-in_ok-c-in-Pair-clause-is c = rw (pair_congruent c.requires.left_formed c.in-Pair.ensures) (goes_on _ c.in_ok-c-in-Pair.ensures.is refl)

pub returns-in_err-other-in-Shift-clause-is : goal.returns-in_err-other-in-Shift-clause-is
unfolding congruent
returns-in_err-other-in-Shift-clause-is c = rw (is_misfit c.from_residual-in_err-other-in-Shift.ensures.0, node_built c.requires.left_formed.shaped c.in-Shift.ensures) (stops _ c.in_err-other-in-Shift.ensures.is)

pub returns-then-count-other-clause-is : goal.returns-then-count-other-clause-is
unfolding congruent
returns-then-count-other-clause-is c =
    rw (node_built c.requires.left_formed.shaped c.in-Shift.ensures)
    (goes_on _ c.in_ok-other-in-Shift.ensures.is (check_passes _ _ (eq-eqb _ _ c.if-count-other.true) refl))

pub returns-else-count-other-clause-is : goal.returns-else-count-other-clause-is
unfolding congruent
returns-else-count-other-clause-is c =
    rw (node_built c.requires.left_formed.shaped c.in-Shift.ensures)
    (goes_on _ c.in_ok-other-in-Shift.ensures.is (check_fails _ _ (ne_eqb _ _ c.if-count-other.false)))

pub returns-in_default-clause-is : goal.returns-in_default-clause-is
returns-in_default-clause-is c = not_operation c.requires.left_formed c.view.ensures _ c.in_default.not-Pair c.in_default.not-Shift
