-- What the words of an answer say. Assumes nothing.
use Prim.Native.Nat.{ℕ}
use mathlib.Core.Path.{◌≡◌, ◌∙◌}
use mathlib.Core.List.{List}
use Rattle.std.specs.Prelude.{MatchResult}
use Rattle.model.specs.Result.{Result, Err, Ok}
use Rattle.model.specs.Package.{proof_section, proof_start, read_header}
use Rattle.model.specs.declared.Refusal.{Refusal}
use Rattle.header.specs.declared.package.Package.{Package}
use Rattle.header.specs.Packages.{headed}
use Rattle.header.proofs.Headers.{proof_part, no_part}

-- the proof section's start, by the answer of the package's reading
pub started : (bytes : List ℕ) (P : Package → Type 0) (m : Result Package Refusal) (s : ℕ) → headed m ≡ read_header bytes → MatchResult m P (λ _. s ≡ 0) → ((p : Package) → P p → s ≡ proof_start p.header) → s ≡ (proof_section bytes).start
started bytes P (Ok p) s h e says = (proof_part bytes h s (says p e)).1
started bytes P (Err x) s h e says = e ∙ (no_part bytes h).1
