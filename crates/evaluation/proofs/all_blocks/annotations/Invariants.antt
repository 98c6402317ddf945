use Rattle.evaluation.proofs.BlockLaws.{Passed}
use Rattle.evaluation.proofs.all_blocks.annotations.Given as goal

abbrev pub invariant-loop-annotated : goal.invariant-loop-annotated
invariant-loop-annotated l = Passed l.ws l.setting l.initial.progress l.progress l.annotated-index
