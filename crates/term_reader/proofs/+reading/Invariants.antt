-- by the nodes left: `read` hands on as many to `read_pair` and `read_shift`, which hand on fewer
use Prim.Native.Nat.{◌+◌}
use Rattle.term_reader.proofs.+reading.Given as goal

abbrev pub decreases-read : goal.decreases-read
decreases-read l = l.left + l.left + 1

abbrev pub decreases-read_pair : goal.decreases-read_pair
decreases-read_pair l = l.left + l.left

abbrev pub decreases-read_shift : goal.decreases-read_shift
decreases-read_shift l = l.left + l.left
