use Rattle.claims.proofs.PlanLaws.{formed_at}
use Rattle.arithmetic_rules.proofs.from_zero.Goals as goal

pub is_constant-requires : goal.is_constant-requires
is_constant-requires c = formed_at c.requires.formed (c.in_ok-zero.ensures.below _ c.requires.claim_below).0
