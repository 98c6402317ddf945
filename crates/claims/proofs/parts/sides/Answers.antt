use Rattle.model.specs.Rule.{sides_of}
use Rattle.model_laws.proofs.Steps.{check_fails, check_passes, goes_on, stops}
use Rattle.std.proofs.Common.{refl, sym}
use Rattle.claims.proofs.PartLaws.{is_misfit, same_kind}
use Rattle.claims.proofs.parts.sides.Goals as goal

pub returns-in_err-own-clause-is : goal.returns-in_err-own-clause-is
unfolding sides_of
returns-in_err-own-clause-is c = λ ws. rw (is_misfit c.from_residual.ensures.0) (stops _ (c.in_err-own.ensures.is ws))

pub returns-then-eq-clause-is : goal.returns-then-eq-clause-is
unfolding sides_of
returns-then-eq-clause-is c = λ ws. goes_on _ (c.in_ok-own.ensures.is ws) (check_passes _ _ (sym (same_kind _ _ c.if-eq.ensures)) refl)

pub returns-else-eq-clause-is : goal.returns-else-eq-clause-is
unfolding sides_of
returns-else-eq-clause-is c = λ ws. goes_on _ (c.in_ok-own.ensures.is ws) (check_fails _ _ (sym (same_kind _ _ c.if-eq.ensures)))
