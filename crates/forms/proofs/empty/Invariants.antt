use Rattle.std.proofs.Common.{◌++◌, drop}
use Rattle.forms.specs.Area.{Emptied}
use Rattle.forms.proofs.empty.Given as goal

abbrev pub invariant-loop-coefficient : goal.invariant-loop-coefficient
invariant-loop-coefficient l = Emptied l.fn.ws (l.coefficient-items ++ drop l.variables l.fn.ws) l.coefficient-index l.zero
