-- How far nodes of the model's are scanned, without the term read. Assumes nothing.
use Rattle.std.specs.Prelude.{ℕ, ◌≤◌, ◌<◌}
use Rattle.model.specs.Result.{Result, ◌>>=◌, map_ok}
use Rattle.model.specs.declared.ReadError.{ReadError}
use Rattle.model.specs.Expression.{Nodes}
use Rattle.expressions.specs.declared.scanning.Scanned.{Scanned}

-- the next position and the nodes left there, or why the scan stops
unfoldable pub scanned_of : Nodes → Result Scanned ReadError
scanned_of r = map_ok (λ x. record { next = x.1; left = x.2 }) r

-- a node of which a part is scanned: it stops there, or goes on with the operand that follows
abbrev pub then_operand : Result Scanned ReadError → (operand : (left p : ℕ) → Nodes) → Result Scanned ReadError
then_operand scanned operand = scanned >>= λ s. scanned_of (operand s.left s.next)

-- the next position is no further than the end, and fewer nodes are left than before
abbrev pub Within : (end left : ℕ) → Scanned → Type 0
Within end left s = (s.next ≤ end) × (s.left < left)
