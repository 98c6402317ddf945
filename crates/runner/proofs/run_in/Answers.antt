use Rattle.runner.proofs.Laws.{runnable}
use Rattle.runner.proofs.run_in.Goals as goal

pub run_code-requires : goal.run_code-requires
run_code-requires c = runnable c.args.routine.now.fits c.in_ok-code.ensures.is c.in_ok-code.ensures.formed c.requires.sixteen
