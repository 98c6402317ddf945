use Rattle.std.proofs.Common.{◌≡◌, take}
use Rattle.claims.proofs.Plan.ask.Given as goal

abbrev pub invariant-loop-k : goal.invariant-loop-k
invariant-loop-k g l = (take l.k l.self.premises ≡ take l.k l.premise-items) × (l.self.top ≡ l.initial.self.top)
