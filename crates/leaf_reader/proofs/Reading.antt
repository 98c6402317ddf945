-- Laws of the model's reading of a constant and of a variable, with a term for each variable: one for each way out of the readers. Assumes nothing.
use mathlib.Core.Path.{◌≡◌}
use mathlib.Core.List.{List}
use Prim.Native.Nat.{ℕ, ◌+◌, ◌-◌, ◌<◌, ◌≤◌}
use native.Mathlib.Omega.{arith}
use borrow.Author.Tests.{lt-ltb, le-ltb, le-leb, lt-leb}
use Rattle.model.specs.Word.{le16, le32}
use Rattle.model.specs.Result.{Err, Ok, ◌>>=◌, check}
use Rattle.model.specs.Term.{Term, constant}
use Rattle.model.specs.Field.{half_at, word_at}
use Rattle.model.specs.declared.ReadError.TheVariants.{Missing, Fault}
use Rattle.model.specs.Expression.{four_byte_constant, two_byte_variable, Nodes, node_of}
use Rattle.leaf_reader.specs.Leaves.{over, nodes_over}

module _ (bytes : List ℕ) (end limit : ℕ) (σ : ℕ → Term) (operand : (left p : ℕ) → Nodes) (left at : ℕ) where
  pub constant_missing : end < at + 5 → Err Missing ≡ nodes_over σ (node_of bytes end limit operand four_byte_constant left at)
  unfolding node_of word_at ◌>>=◌ check
  constant_missing h = rw (lt-leb (at + 1 + 4) end (omega arith))

  pub constant_found : {c : ℕ} {t : Term} → at + 5 ≤ end → c ≡ le32 bytes (at + 1) → t ≡ constant c
      → Ok (t, at + 5, left - 1) ≡ nodes_over σ (node_of bytes end limit operand four_byte_constant left at)
  unfolding node_of word_at ◌>>=◌ check over
  constant_found h e d = rw (le-leb (at + 1 + 4) end (omega arith), d, e)

  pub variable_missing : end < at + 3 → Err Missing ≡ nodes_over σ (node_of bytes end limit operand two_byte_variable left at)
  unfolding node_of half_at ◌>>=◌ check
  variable_missing h = rw (lt-leb (at + 1 + 2) end (omega arith))

  module _ {v : ℕ} (h : at + 3 ≤ end) (e : v ≡ le16 bytes (at + 1)) where
    pub variable_fault : limit ≤ v → Err (Fault (at + 1)) ≡ nodes_over σ (node_of bytes end limit operand two_byte_variable left at)
    unfolding node_of half_at ◌>>=◌ check
    variable_fault l = rw (le-leb (at + 1 + 2) end (omega arith), ← e, le-ltb v limit l)

    pub variable_found : {t : Term} → v < limit → t ≡ σ v → Ok (t, at + 3, left - 1) ≡ nodes_over σ (node_of bytes end limit operand two_byte_variable left at)
    unfolding node_of half_at ◌>>=◌ check over
    variable_found l d = rw (le-leb (at + 1 + 2) end (omega arith), ← e, lt-ltb v limit l, d)
