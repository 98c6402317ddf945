-- Where a reading of the model's ends, without the term or the atoms read. Assumes nothing.
use Rattle.std.specs.Prelude.{ℕ}
use Rattle.model.specs.Result.{Result, map_ok}
use Rattle.model.specs.declared.ReadError.{ReadError}

-- the next position, or why the reading stops
unfoldable pub ends : {A : Type 0} → Result (A × ℕ) ReadError → Result ℕ ReadError
ends r = map_ok (λ x. x.1) r
