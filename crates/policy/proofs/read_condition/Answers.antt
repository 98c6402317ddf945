use mathlib.Core.Path.{◌≡◌}
use Rattle.std.proofs.Common.{rules}
use Rattle.model.specs.Result.{map_err}
use Rattle.model.specs.Policy.{policy_refusal}
use Rattle.model.proofs.Results.{mapped}
use Rattle.expressions.specs.Reading.{ends}
use Rattle.policy.specs.Conditions.{condition_at}
use Rattle.policy.proofs.ConditionsLaws.{condition_read, condition_stands}
use Rattle.policy.proofs.read_condition.Goals as goal
use Rattle.policy.proofs.read_condition.Goals.{After-map_err}

-- where the atoms end, or why the policy is refused
atoms_end : (c : After-map_err) → c.map_err.result ≡ map_err (policy_refusal c.args.bytes.now) (ends (condition_at c.args.bytes.now c.args.condition.atoms c.args.condition.at))
unfolding policy_refusal
atoms_end c = mapped _ _ _ _ c.atoms.ensures.ends c.map_err.ensures.cases (λ e x p. search rules)

pub returns-clause-end : goal.returns-clause-end
returns-clause-end c = condition_read _ _ _ (atoms_end (goal.at.returns-clause-end c).After-map_err)

pub returns-clause-stands : goal.returns-clause-stands
returns-clause-stands c = condition_stands _ _ _ _ c.atoms.ensures.ends (atoms_end (goal.at.returns-clause-stands c).After-map_err) c.requires c.atoms.ensures.inside
