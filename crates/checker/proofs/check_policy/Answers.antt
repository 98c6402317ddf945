use Rattle.model.proofs.Results.{stopped}
use Rattle.checker.proofs.Laws as laws
use Rattle.checker.proofs.check_policy.Goals as goal

pub returns-in_err-policy : goal.returns-in_err-policy
returns-in_err-policy c = rw (stopped _ _ c.from_residual.ensures.1) (laws.policy_stop _ c.requires _ _ _ c.in_err-policy.ensures.read)

pub returns : goal.returns
returns c = laws.package_checked _ c.requires _ _ _ c.in_ok-policy.ensures.read _ c.check_package.ensures
