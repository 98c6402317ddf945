use Rattle.rights.proofs.Rights.{Searched}
use Rattle.rights.proofs.writable.Given as goal

abbrev pub invariant-loop-region : goal.invariant-loop-region
invariant-loop-region l = Searched l.regions l.w l.given l.region-index
