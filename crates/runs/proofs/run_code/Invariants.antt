use Rattle.runs.proofs.Runs.{Going}
use Rattle.runs.proofs.run_code.Given as goal

abbrev pub invariant-loop-steps : goal.invariant-loop-steps
invariant-loop-steps l = Going l.code l.regions l.initial.registers l.initial.memory l.budget l.registers l.memory l.counter l.steps
