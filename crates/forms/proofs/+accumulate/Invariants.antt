use Rattle.forms.proofs.+accumulate.Given as goal

abbrev pub decreases-accumulate : goal.decreases-accumulate
decreases-accumulate l = l.i
