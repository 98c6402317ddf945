use Rattle.policy_sizes.proofs.SizesLaws as laws
use Rattle.policy_sizes.proofs.in_range.Goals as goal

pub returns-then-contains : goal.returns-then-contains
returns-then-contains c = laws.inside _ _ _ _ _ (rw (c.new.ensures.start, c.new.ensures.end, c.new.ensures.exhausted) at c.contains.ensures.value) c.if-contains.true

pub returns : goal.returns
returns c = laws.outside _ _ _ _ _ (rw (c.new.ensures.start, c.new.ensures.end, c.new.ensures.exhausted) at c.contains.ensures.value) c.if-contains.false
