-- A path in the words of the workspace: changes above its top, and terms over its registers. Assumes nothing.
use mathlib.Core.Path.{◌≡◌, refl, sym, subst}
use mathlib.Core.List.{List, [], ◌∷◌, map}
use Prim.Native.Nat.{ℕ, zero, suc, ◌+◌, ◌<◌, ◌≤◌}
use native.Mathlib.Nat.{not-suc-le-zero, le_of_suc-le-suc}
use native.Mathlib.Numerals.{add-one}
use native.Mathlib.Omega.{arith}
use native.Mathlib.Decide.{dec_lt}
use lib.ListN.{length, get_or}
use Rattle.model.specs.Term.{Term, constant, variable, sum, difference, mask, shift, substitute}
use Rattle.model.specs.Linear.{variable_bound}
use Rattle.model.specs.Expression.{register_count}
use Rattle.workspace.specs.Layout.{table_base, Same}
use Rattle.nodes.specs.Table.{place, term_at, Formed, Space, Put}
use Rattle.leaf_reader.specs.Leaves.{Ready}
use Rattle.term_reader.specs.Reader.{RegisterTerms}
use Rattle.workspace.proofs.Frames.{same_refl, same_trans, same_within}
use Rattle.derivation.proofs.ApplyLaws.{prepared_grown}
use Rattle.paths.specs.declared.Path.{Path}
use Rattle.paths.specs.Walking.{path_of, raised_to, NodeIn, PathIn}
use Rattle.paths.proofs.Kept.{map_at, register_term, node_wider, kept_same, table_term, table_node, path_equal, path_held}

-- ---- lists
map_beyond : (f : ℕ → Term) (l : List ℕ) (v : ℕ) (d : Term) → length l ≤ v → get_or (map f l) v d ≡ d
map_beyond f [] v d h = refl
map_beyond f (x ∷ l) zero d h = absurd (not-suc-le-zero h)
map_beyond f (x ∷ l) (suc v) d h = map_beyond f l v d (le_of_suc-le-suc h)

-- ---- changes above the path's top
table_same : {ws us : List ℕ} (top : ℕ) → Same 0 (place top) ws us → Same table_base (place top) ws us
table_same top s = same_within table_base (place top) (omega arith) (omega arith) s

module _ {ws us : List ℕ} {p : Path} (s : Same 0 (place p.top) ws us) where
  pub node_same : {i : ℕ} → NodeIn ws p i → term_at us i ≡ term_at ws i
  node_same n = table_term {p = p} (table_same p.top s) n

  pub node_kept : {i : ℕ} → NodeIn ws p i → NodeIn us p i
  node_kept n = table_node {p = p} (table_same p.top s) n

  module _ (h : PathIn ws p) where
    pub path_same : path_of us p ≡ path_of ws p
    path_same = path_equal (kept_same p h.prepared.assumed.few s) h

    pub path_kept : length us ≡ length ws → PathIn us p
    path_kept e = path_held (kept_same p h.prepared.assumed.few s) h e

-- ---- the same path with more nodes in the table
pub node_raised : {ws : List ℕ} {p : Path} {i : ℕ} (t : ℕ) → p.top ≤ t → NodeIn ws p i → NodeIn ws (raised_to p t) i
node_raised t h n = node_wider h (omega arith) n

pub path_raised : {ws : List ℕ} {p : Path} (t : ℕ) → p.top ≤ t → Formed ws t → PathIn ws p → PathIn ws (raised_to p t)
path_raised {ws} {p} t h f w = record {
  prepared = prepared_grown (same_refl 0 (place p.top) ws) w.prepared f h;
  sixteen = w.sixteen;
  held = λ v k. node_raised t h (w.held v k);
  run = w.run;
}

-- the table has grown to t, by at most n nodes, above the path
pub record Above (ws us : List ℕ) (p : Path) (t n : ℕ) : Type 0 where
  pub grows : p.top ≤ t
  pub few : t ≤ p.top + n
  pub inside : PathIn us (raised_to p t)
  pub kept : Same 0 (place p.top) ws us

pub above_path : {ws us : List ℕ} {p : Path} {t n : ℕ} → PathIn ws p → p.top ≤ t → t ≤ p.top + n → Formed us t → Same 0 (place p.top) ws us → length us ≡ length ws → Above ws us p t n
above_path {t = t} y h k f s e = record { grows = h; few = k; inside = path_raised t h f (path_kept s y e); kept = s }

-- by a node that is put at its top
pub above_put : {ws us : List ℕ} {p : Path} {c : Term} → PathIn ws p → Put ws us p.top c → length us ≡ length ws → Above ws us p (p.top + 1) 1
above_put {us = us} {p} y q e = above_path y (omega arith) (omega arith) (subst (Formed us) (sym (add-one p.top)) q.formed) q.kept e

-- by more nodes
pub above_more : {ws us vs : List ℕ} {p : Path} {t u a b : ℕ} → Above ws us p t a → Above us vs (raised_to p t) u b → Above ws vs p u (a + b)
above_more {p = p} f g = record {
  grows = omega (arith, f.grows, g.grows);
  few = omega (arith, f.few, g.few);
  inside = g.inside;
  kept = same_trans f.kept (same_within 0 (place p.top) (omega arith) (omega (arith, f.grows)) g.kept);
}

-- words that keep its nodes
pub above_kept : {ws us vs : List ℕ} {p : Path} {t n : ℕ} → Above ws us p t n → Same 0 (place t) us vs → length vs ≡ length us → Above ws vs p t n
above_kept {p = p} f s e = record {
  grows = f.grows;
  few = f.few;
  inside = path_kept s f.inside e;
  kept = same_trans f.kept (same_within 0 (place p.top) (omega arith) (omega (arith, f.grows)) s);
}

-- ---- terms over the registers
pub registers_terms : {ws : List ℕ} {p : Path} → PathIn ws p → RegisterTerms ws p.registers (map (term_at ws) p.registers)
registers_terms h = record { is = register_term h }

substitute_bound : (terms : List Term) (n : ℕ) → ((v : ℕ) → variable_bound (get_or terms v (constant 0)) ≤ n) → (t : Term) → variable_bound (substitute terms t) ≤ n
unfolding substitute variable_bound
substitute_bound terms n k (constant c) = omega arith
substitute_bound terms n k (variable v) = k v
substitute_bound terms n k (sum s t) = omega (arith, substitute_bound terms n k s, substitute_bound terms n k t)
substitute_bound terms n k (difference s t) = omega (arith, substitute_bound terms n k s, substitute_bound terms n k t)
substitute_bound terms n k (mask s t) = omega (arith, substitute_bound terms n k s, substitute_bound terms n k t)
substitute_bound terms n k (shift count s) = substitute_bound terms n k s

-- they are over the path's variables
pub registers_bound : {ws : List ℕ} {p : Path} → PathIn ws p → (t : Term) → variable_bound (substitute (map (term_at ws) p.registers) t) ≤ p.variables
unfolding variable_bound
registers_bound {ws} {p} h = substitute_bound (map (term_at ws) p.registers) p.variables (λ v. at v (dec_lt v register_count))
  where
    at : (v : ℕ) → Dec (v < register_count) → variable_bound (get_or (map (term_at ws) p.registers) v (constant 0)) ≤ p.variables
    at v (yes k) = rw (map_at (term_at ws) p.registers v (constant 0) (omega (arith, h.sixteen))) (h.held v k).bound
    at v (no k) = rw (map_beyond (term_at ws) p.registers v (constant 0) (omega (arith, h.sixteen))) (omega arith)

-- what the reader asks
pub path_ready : {ws : List ℕ} {path : Path} {room : ℕ} (n : ℕ) → n ≤ room → PathIn ws path → Space ws path.top room → Ready ws path.registers path.top n
path_ready n h y s = record {
  formed = y.prepared.formed;
  space = record { words = s.words; fits = omega (arith, s.fits) };
  held = λ v k. (y.held v k).below;
}
