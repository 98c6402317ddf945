use Rattle.term_walks.proofs.+walked.Given as goal

abbrev pub decreases-walked : goal.decreases-walked
decreases-walked l = l.i
