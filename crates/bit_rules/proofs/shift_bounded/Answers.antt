use Rattle.claims.proofs.PlanLaws.{formed_at}
use Rattle.bit_rules.proofs.shift_bounded.Goals as goal

pub shifted-requires : goal.shifted-requires
shifted-requires c = formed_at c.requires.formed (c.in_ok-left.ensures.below _ c.requires.claim_below).0

pub is_constant-requires : goal.is_constant-requires
is_constant-requires c = formed_at c.requires.formed (c.in_ok-left.ensures.below _ c.requires.claim_below).1
