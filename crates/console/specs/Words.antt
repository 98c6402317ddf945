-- Words in a file: 4 bytes each, low byte first. Assumes nothing.
use Rattle.std.specs.Prelude.{ℕ, zero, suc, ◌+◌, ◌*◌, List, [], ◌∷◌, ◌++◌}
use Rattle.model.specs.Word.{le32}

-- so many words, from a number on
unfoldable pub words_from : List ℕ → (first count : ℕ) → List ℕ
words_from bytes first zero = []
words_from bytes first (suc count) = words_from bytes first count ++ (le32 bytes (4 * (first + count)) ∷ [])
