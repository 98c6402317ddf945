use Rattle.std.proofs.Common.{rules}
use Rattle.targets.proofs.Jumps.{jumps_allowed}
use Rattle.targets.proofs.target_allowed.Goals as goal

pub returns : goal.returns
returns c = jumps_allowed _ _ _ _ _ _ c.target_of.ensures c.is_none_or.ensures (λ i p. search rules)
