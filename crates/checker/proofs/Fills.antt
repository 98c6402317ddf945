-- The words of linear forms, once they are filled with zeros. Assumes nothing.
use mathlib.Core.Path.{◌≡◌, ap, ◌∙◌}
use Prim.Native.Nat.{ℕ, ◌≤◌}
use native.Mathlib.Omega.{arith}
use mathlib.Core.List.{List, ◌++◌}
use lib.ListN.{length, get_or, take, drop, replicate, length-replicate, get_or-replicate, get_or-append}
use lib.Seq.{length-take-le}
use Rattle.workspace.specs.Layout.{area_words}
use Rattle.forms.specs.Area.{Cleared}

pub front_cleared : (w z : List ℕ) → area_words ≤ length w → z ≡ replicate (length (take area_words w)) 0 → Cleared (z ++ drop area_words w)
front_cleared w z h e =
    let l : length (take area_words w) ≡ area_words = length-take-le area_words w h in
    let f : z ≡ replicate area_words 0 = e ∙ ap (λ (n : ℕ). replicate n 0) l in
    let long : length z ≡ area_words = ap length f ∙ length-replicate {A = ℕ} area_words 0 in
    record { word = λ k below. get_or-append z (drop area_words w) 0 k (omega arith) ∙ ap (λ (y : List ℕ). get_or y k 0) f ∙ get_or-replicate {A = ℕ} area_words k 0 0 below }
