use Rattle.policy_sizes.proofs.SizesLaws as laws
use Rattle.policy_sizes.proofs.size_byte.Goals as goal

pub returns-then-bytes-at : goal.returns-then-bytes-at
returns-then-bytes-at c = laws.no_byte _ _ _ _ c.if-bytes-at.true

pub returns : goal.returns
returns c = rw (← laws.a_byte _ _ _ _ c.if-bytes-at.false, ← c.from.ensures) c.in_range.ensures
