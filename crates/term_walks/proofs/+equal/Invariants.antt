use Rattle.term_walks.proofs.+equal.Given as goal

abbrev pub decreases-equal : goal.decreases-equal
decreases-equal l = l.i
