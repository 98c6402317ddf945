use Rattle.model.proofs.Results.{stopped}
use Rattle.evaluation.proofs.BlockLaws.{entry_stops, entry_then}
use Rattle.evaluation.proofs.all_blocks.evaluate_blocks.Goals as goal

pub returns-in_err-progress : goal.returns-in_err-progress
returns-in_err-progress c = rw (stopped _ _ c.from_residual.ensures.1) (entry_stops c.in_err-progress.ensures)

pub returns : goal.returns
returns c = entry_then c.in_ok-progress.ensures c.annotations.ensures
