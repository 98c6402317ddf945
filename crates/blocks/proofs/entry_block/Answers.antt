use mathlib.Core.Path.{refl}
use native.Mathlib.Omega.{arith}
use Rattle.blocks.proofs.Starting.{block_asks, entry_above, entry_block_lem}
use Rattle.blocks.proofs.entry_block.Goals as goal

pub assume-path-requires-clause-fresh : goal.assume-path-requires-clause-fresh
assume-path-requires-clause-fresh c =
    block_asks c.start-first.ensures (entry_above c.start-first.ensures c.put_constant.ensures c.put_constant.auto.ws) c.raised.ensures c.requires.few_atoms (omega arith) (omega (arith, c.requires.workspace.words, c.start-first.auto.ws, c.put_constant.auto.ws))

pub returns : goal.returns
returns c = entry_block_lem c.start-first.ensures c.put_constant.ensures c.put_constant.auto.ws c.requires.few_atoms refl c.raised.ensures c.assume-path.ensures
