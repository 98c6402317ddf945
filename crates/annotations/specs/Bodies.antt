-- What stands after an annotation's atom count. Assumes nothing.
use Rattle.std.specs.Prelude.{ℕ, List}
use Rattle.model.specs.Result.{Result, Ok, ◌>>=◌}
use Rattle.model.specs.Term.{Term}
use Rattle.model.specs.Atom.{Atom}
use Rattle.model.specs.Expression.{register_count, expression_at, atoms_at}
use Rattle.model.specs.declared.ReadError.{ReadError}

-- the credit and so many atoms, and the next position
unfoldable pub body_at : List ℕ → (end count p : ℕ) → Result ((Term × List Atom) × ℕ) ReadError
body_at bytes end count p = do
  (credit, q) ← expression_at bytes end register_count p
  (atoms, r) ← atoms_at bytes end register_count count q
  Ok ((credit, atoms), r)
