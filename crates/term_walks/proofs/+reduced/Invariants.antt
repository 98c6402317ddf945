use Rattle.std.proofs.Common.{◌+◌, ◌*◌}
use Rattle.term_walks.proofs.+reduced.Given as goal

abbrev pub decreases-combined : goal.decreases-combined
decreases-combined l = 2 * l.i

abbrev pub decreases-reduced : goal.decreases-reduced
decreases-reduced l = 2 * l.i + 1
