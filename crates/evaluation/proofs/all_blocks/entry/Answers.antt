use native.Mathlib.Omega.{arith}
use Rattle.evaluation.proofs.BlockLaws.{block_on, entry_follows}
use Rattle.evaluation.proofs.all_blocks.entry.Goals as goal

pub follow-requires-clause-room_on : goal.follow-requires-clause-room_on
follow-requires-clause-room_on c = block_on c.args.setting.now (omega (arith, c.requires.workspace.words, c.entry_block-block.auto.ws)) (omega arith) c.entry_block-block.ensures.block

pub returns : goal.returns
returns c = entry_follows c.args.setting.now c.entry_block-block.ensures c.follow.ensures
