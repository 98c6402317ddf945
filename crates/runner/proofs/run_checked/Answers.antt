use Rattle.model.proofs.Results.{stopped}
use Rattle.runner.proofs.Laws as laws
use Rattle.runner.proofs.run_checked.Goals as goal

pub returns-in_err-granted : goal.returns-in_err-granted
returns-in_err-granted c = rw (stopped _ _ c.from_residual.ensures.1) (laws.no_policy _ _ _ _ _ _ c.in_err-granted.ensures.read)

pub returns-then-not-registers-memory : goal.returns-then-not-registers-memory
returns-then-not-registers-memory c = laws.wrong_start _ _ _ _ _ _ c.in_ok-granted.ensures.read c.if-not-registers-memory.true

pub returns-in_err-routine : goal.returns-in_err-routine
returns-in_err-routine c = rw (stopped _ _ c.from_residual-in_err-routine.ensures.1) (laws.header_refused _ _ _ _ _ _ c.in_ok-granted.ensures.read c.if-not-registers-memory.false _ c.in_err-routine.ensures.is)

pub run_routine-requires : goal.run_routine-requires
run_routine-requires c = laws.sixteen _ _ c.if-not-registers-memory.false

pub returns : goal.returns
returns c = laws.code_runs _ _ _ _ _ _ c.in_ok-granted.ensures.read c.if-not-registers-memory.false _ c.in_ok-routine.ensures.is _ _ _ (rw (c.in_ok-routine.ensures.whole, c.as_slice-regions.ensures.same) at c.run_routine.ensures)
