-- When a package's bytes fit a header. Assumes nothing.
use Rattle.std.specs.Prelude.{◌≡◌, List, ℕ, ◌≤◌, length}
use Rattle.model.specs.Package.{package_length, most_instructions, most_annotations, most_bytes}
use Rattle.model.specs.declared.Header.{Header}

-- the bytes are as many as the header says, and its counts are in range
pub record Fits (bytes : List ℕ) (h : Header) : Type 0 where
  pub some : 1 ≤ h.instructions
  pub few : h.instructions ≤ most_instructions
  pub noted : h.annotations ≤ most_annotations
  pub whole : package_length h ≡ length bytes
  pub small : length bytes ≤ most_bytes
