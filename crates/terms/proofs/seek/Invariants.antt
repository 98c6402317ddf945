use Prim.Native.Nat.{◌<◌}
use Rattle.terms.proofs.seek.Given as goal

abbrev pub invariant-loop : goal.invariant-loop
invariant-loop l = l.note < 3936
