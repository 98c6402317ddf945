use Rattle.policy_sizes.proofs.SizesLaws as laws
use Rattle.policy_sizes.proofs.word_field.Goals as goal

pub returns-then-bytes-at : goal.returns-then-bytes-at
returns-then-bytes-at c = laws.no_word _ _ c.if-bytes-at.true

pub returns : goal.returns
returns c = rw c.word.ensures (laws.a_word _ _ c.if-bytes-at.false)
