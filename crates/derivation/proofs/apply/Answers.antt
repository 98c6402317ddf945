use Rattle.std.proofs.Common.{ap, sym, refl, ◌≡◌, ◌∙◌}
use Rattle.model.specs.Result.{map_err}
use Rattle.model.specs.declared.Refusal.TheVariants.{UnfitRule}
use Rattle.claims.specs.Plan.{filled}
use Rattle.model.proofs.Results.{stopped, mapped, past_stop}
use Rattle.derivation.proofs.ApplyLaws.{applies_fits, applies_refused, applies_unfit, plannable, unfit}
use Rattle.derivation.proofs.apply.Goals as goal
use Rattle.derivation.proofs.apply.Goals.{After-map_err}

pub returns-in_err-opened : goal.returns-in_err-opened
returns-in_err-opened c = rw (stopped _ _ c.from_residual.ensures.1) (applies_refused c.requires _ _ c.in_err-opened.ensures.answer c.in_err-opened.ensures.grown)

pub planned-requires : goal.planned-requires
planned-requires c = plannable c.requires _ _ c.in_ok-opened.ensures.answer c.in_ok-opened.ensures.grown c.read_rule.auto.ws

-- what comes of the plan
plan_made : (c : After-map_err) → map_err (λ _. UnfitRule c.args.at) c.planned.result ≡ c.map_err.result
plan_made c = sym (mapped _ _ _ _ refl c.map_err.ensures.cases (λ e x p. cc))

pub returns-in_err-map_err : goal.returns-in_err-map_err
returns-in_err-map_err c =
    let no = unfit _ (plan_made (goal.at.returns-in_err-map_err c).After-map_err ∙ c.in_err-map_err.was) in
    rw (stopped _ _ c.from_residual-in_err-map_err.ensures.1, no.1)
    (applies_unfit c.requires _ _ c.in_ok-opened.ensures.answer c.in_ok-opened.ensures.grown c.planned.ensures (ap (λ r. filled r c.planned.new.plan) no.0))

pub returns : goal.returns
returns c =
    let fits = past_stop _ _ (plan_made (goal.at.returns c).After-map_err ∙ c.in_ok-map_err.was) in
    applies_fits c.requires _ _ c.in_ok-opened.ensures.answer c.in_ok-opened.ensures.grown (rw fits at c.planned.ensures)
