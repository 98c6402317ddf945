use Rattle.model.proofs.Results.{stopped}
use Rattle.evaluation.proofs.BlockLaws.{noted_at, block_stops, block_passes, blocks_end}
use Rattle.evaluation.proofs.all_blocks.annotations.Goals as goal

pub annotation-requires-clause-noted : goal.annotation-requires-clause-noted
annotation-requires-clause-noted c = noted_at c.args.setting.now _ _ c.loop-annotated-test.true

pub returns-in_err-progress : goal.returns-in_err-progress
returns-in_err-progress c = rw (stopped _ _ c.from_residual.ensures.1) (block_stops c.loop-annotated.invariant _ c.loop-annotated-test.true c.in_err-progress.ensures)

pub loop-annotated-preserved : goal.loop-annotated-preserved
loop-annotated-preserved c = block_passes c.loop-annotated.invariant _ c.loop-annotated-test.true c.in_ok-progress.ensures c.annotation.auto.ws

pub returns : goal.returns
returns c = blocks_end c.loop-annotated.invariant c.loop-annotated-test.false
