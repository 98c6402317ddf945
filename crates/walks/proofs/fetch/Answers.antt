use Rattle.walks.proofs.WalkLaws.{fetched}
use Rattle.walks.proofs.fetch.Goals as goal

pub returns : goal.returns
returns c = rw c.unwrap_or.ensures (fetched c.args.setting.now c.requires _ c.instruction.ensures.is c.instruction.ensures.formed)
