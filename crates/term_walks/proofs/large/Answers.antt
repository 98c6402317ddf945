use Rattle.term_walks.proofs.Walks.{nothing_kept}
use Rattle.term_walks.proofs.large.Goals as goal

pub reduced-left-requires-clause-kept : goal.reduced-left-requires-clause-kept
reduced-left-requires-clause-kept c = nothing_kept _ 4096
