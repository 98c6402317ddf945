-- Changes of a path in the words of the workspace. Assumes nothing.
use mathlib.Core.Path.{◌≡◌, refl, ap, ◌∙◌}
use mathlib.Core.List.{List, [], ◌∷◌, map}
use Prim.Native.Nat.{ℕ, zero, suc, ◌<◌}
use native.Mathlib.Decide.{ℕ_discrete}
use native.Mathlib.Omega.{arith}
use lib.ListN.{length, get_or, set, length-set}
use lib.Seq.{get_or-set_same, get_or-set_other}
use Rattle.model.specs.Term.{Term}
use Rattle.model.specs.Goals.{assigning}
use Rattle.model.specs.Expression.{register_count}
use Rattle.model.specs.Package.{most_instructions}
use Rattle.workspace.specs.Layout.{most_variables}
use Rattle.nodes.specs.Table.{term_at}
use Rattle.assumptions.specs.Area.{listed}
use Rattle.paths.specs.declared.Path.{Path}
use Rattle.paths.specs.Walking.{path_of, NodeIn, PathIn, stepped_to, written_to, one_variable, Kept}
use Rattle.paths.proofs.Kept.{node_wider, path_held}
use Rattle.moves.specs.Moves.{RoomFor}

map_set : (f : ℕ → Term) (l : List ℕ) (d n : ℕ) → map f (set l d n) ≡ set (map f l) d (f n)
map_set f [] d n = refl
map_set f (x ∷ l) zero n = refl
map_set f (x ∷ l) (suc d) n = ap (f x ∷◌) (map_set f l d n)

-- ---- changes of a path
module _ {ws : List ℕ} {p : Path} (w : PathIn ws p) where
  pub path_stepped : (i : ℕ) → p.steps < most_instructions → PathIn ws (stepped_to p i)
  path_stepped i h = record { prepared = w.prepared; sixteen = w.sixteen; held = λ v l. node_wider (omega arith) (omega arith) (w.held v l); run = omega arith }

  pub path_written : {d node : ℕ} → d < register_count → NodeIn ws p node → PathIn ws (written_to p d node)
  path_written {d} {node} h n = record { prepared = w.prepared; sixteen = length-set p.registers d node ∙ w.sixteen; held = λ v l. node_wider (omega arith) (omega arith) (go v l (ℕ_discrete v d)); run = w.run }
    where
      go : (v : ℕ) → v < register_count → Dec (v ≡ d) → NodeIn ws p (get_or (set p.registers d node) v 0)
      go v l (yes e) = rw (e, get_or-set_same p.registers d node 0 (omega (arith, w.sixteen))) n
      go v l (no e) = rw (get_or-set_other p.registers d v node 0 (omega arith)) (w.held v l)

  pub written_path : (d node : ℕ) → path_of ws (written_to p d node) ≡ assigning (path_of ws p) d (term_at ws node)
  written_path d node = λ i. record { counter = p.counter; steps = p.steps; registers = map_set (term_at ws) p.registers d node i; variables = p.variables; assumptions = listed ws p.assumptions }

  pub path_variable : p.variables < most_variables → PathIn ws (one_variable p)
  path_variable h = record {
    prepared = let q = w.prepared in record { formed = q.formed; above = q.above; registers = q.registers; most = omega arith; assumed = q.assumed; cleared = q.cleared };
    sixteen = w.sixteen;
    held = λ v l. node_wider (omega arith) (omega arith) (w.held v l);
    run = w.run;
  }

-- ---- room
pub room_kept : {ws us : List ℕ} {p : Path} {left : ℕ} → Kept ws us p → length us ≡ length ws → RoomFor ws p left → RoomFor us p left
room_kept k e g = record {
  words = omega (arith, g.words);
  path_in = path_held k g.path_in e;
  nodes = g.nodes;
  assumed = g.assumed;
  loaded = g.loaded;
  run = g.run;
  within = g.within;
}
