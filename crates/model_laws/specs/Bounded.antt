-- The variables of a claim. Assumes nothing.
use Rattle.std.specs.Prelude.{ℕ, ◌≤◌}
use Rattle.model.specs.Atom.{Atom}
use Rattle.model.specs.Linear.{variable_bound}
use Rattle.model.specs.Goals.{Claim as Claimed, atom, readable, writable}

-- the variables of an atom, of a claim, are among the first n
abbrev pub AtomBounded : (n : ℕ) → Atom → Type 0
AtomBounded n a = (variable_bound a.left ≤ n) × (variable_bound a.right ≤ n)

abbrev pub ClaimBounded : (n : ℕ) → Claimed → Type 0
ClaimBounded n (atom a) = AtomBounded n a
ClaimBounded n (readable t) = variable_bound t ≤ n
ClaimBounded n (writable t) = variable_bound t ≤ n
