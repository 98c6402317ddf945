use native.Mathlib.Omega.{arith}
use Rattle.evaluation.proofs.BlockLaws.{note_asks, index_below, block_up, note_walks}
use Rattle.evaluation.proofs.all_blocks.annotation.Goals as goal

pub annotation_block-block-requires-clause-end_in_bounds : goal.annotation_block-block-requires-clause-end_in_bounds
annotation_block-block-requires-clause-end_in_bounds c = rw c.proof_start-end.ensures (omega (arith, c.args.setting.now.tables.routine.fits.whole), (note_asks c.requires.noted).0)

pub annotation_block-block-requires-clause-few_atoms : goal.annotation_block-block-requires-clause-few_atoms
annotation_block-block-requires-clause-few_atoms c = (note_asks c.requires.noted).1

pub walk-requires-clause-room_for : goal.walk-requires-clause-room_for
walk-requires-clause-room_for c =
    let start = rw c.proof_start-end.ensures at c.annotation_block-block.ensures in
    block_up c.args.setting.now (omega (arith, c.requires.workspace.words, c.annotation_block-block.auto.ws)) (omega (arith, index_below c.requires.noted)) start.block

pub walk-requires-clause-inside : goal.walk-requires-clause-inside
walk-requires-clause-inside c =
    let start = rw c.proof_start-end.ensures at c.annotation_block-block.ensures in
    omega (arith, index_below c.requires.noted, start.block.counter)

pub returns : goal.returns
returns c = note_walks c.requires.noted (rw c.proof_start-end.ensures at c.annotation_block-block.ensures) c.walk.ensures
