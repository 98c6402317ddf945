-- The room above a path's top: words that keep the path, more nodes, less room. Assumes nothing.
use mathlib.Core.Path.{◌≡◌}
use mathlib.Core.List.{List}
use Prim.Native.Nat.{ℕ, ◌+◌, ◌≤◌}
use native.Mathlib.Omega.{arith}
use lib.ListN.{length}
use Rattle.workspace.specs.Layout.{Same}
use Rattle.nodes.specs.Table.{place}
use Rattle.paths.specs.declared.Path.{Path}
use Rattle.paths.specs.Walking.{raised_to}
use Rattle.paths.proofs.Walking.{path_kept, Above}
use Rattle.goals.specs.declared.Progress.{Progress}
use Rattle.goals.specs.Judging.{Reached}
use Rattle.goals.specs.Room.{Going}

-- words that keep the path
pub going_kept : {ws us : List ℕ} {bytes : List ℕ} {room : ℕ} {p : Path} {a b : Progress} → Same 0 (place p.top) ws us → length us ≡ length ws → Reached bytes b → Going ws bytes room p a
    → Going us bytes room p b
going_kept s e r g = record { inside = path_kept s g.inside e; space = record { words = omega (arith, g.space.words); fits = g.space.fits }; reached = r }

-- more nodes
pub going_above : {ws us : List ℕ} {bytes : List ℕ} {room t n : ℕ} {p : Path} {a : Progress} (less : ℕ) → n + less ≤ room → Above ws us p t n → length us ≡ length ws → Going ws bytes room p a
    → Going us bytes less (raised_to p t) a
going_above less k f e g = record { inside = f.inside; space = record { words = omega (arith, g.space.words); fits = omega (arith, g.space.fits, f.few) }; reached = g.reached }

-- less room
pub going_fewer : {ws : List ℕ} {bytes : List ℕ} {room : ℕ} {p : Path} {a : Progress} (less : ℕ) → less ≤ room → Going ws bytes room p a → Going ws bytes less p a
going_fewer less k g = record { inside = g.inside; space = record { words = g.space.words; fits = omega (arith, g.space.fits) }; reached = g.reached }
