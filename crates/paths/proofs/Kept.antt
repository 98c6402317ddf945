-- Words that keep a path: those below its next from_assumption, and its nodes. Assumes nothing.
use mathlib.Core.Path.{◌≡◌, refl, sym, ap₂, ◌∙◌}
use mathlib.Core.List.{List, [], ◌∷◌, map}
use Prim.Native.Nat.{ℕ, zero, suc, ◌<◌, ◌≤◌}
use native.Mathlib.Nat.{not-suc-le-zero, le_of_suc-le-suc}
use native.Mathlib.Omega.{arith}
use lib.ListN.{length, get_or}
use Rattle.model.specs.Term.{Term, constant}
use Rattle.model.specs.Goals.{term_of}
use Rattle.model.specs.Expression.{register_count}
use Rattle.workspace.specs.Layout.{assumption_base, table_base, most_assumptions, Same}
use Rattle.nodes.specs.Table.{place, term_at}
use Rattle.workspace.proofs.Frames.{same_refl, same_trans, same_within}
use Rattle.nodes.proofs.Table.{term_same, formed_same}
use Rattle.assumptions.specs.Area.{slot, Listed}
use Rattle.assumptions.proofs.Laws.{held_same, listed_same}
use Rattle.rule_reader.specs.Opening.{register_nodes}
use Rattle.rule_reader.proofs.OpeningLaws.{register_below}
use Rattle.derivation.specs.Deriving.{Prepared}
use Rattle.paths.specs.declared.Path.{Path}
use Rattle.paths.specs.Walking.{path_of, NodeIn, PathIn, Kept}

-- ---- lists
pub map_same : (f g : ℕ → Term) (l : List ℕ) → ((v : ℕ) → v < length l → f (get_or l v 0) ≡ g (get_or l v 0)) → map f l ≡ map g l
map_same f g [] h = refl
map_same f g (x ∷ l) h = ap₂ ◌∷◌ (h 0 (omega arith)) (map_same f g l (λ v k. h (suc v) (omega arith)))

pub map_at : (f : ℕ → Term) (l : List ℕ) (v : ℕ) (d : Term) → v < length l → get_or (map f l) v d ≡ f (get_or l v 0)
map_at f [] v d h = absurd (not-suc-le-zero h)
map_at f (x ∷ l) zero d h = refl
map_at f (x ∷ l) (suc v) d h = map_at f l v d (le_of_suc-le-suc h)

-- the term of a register
pub register_term : {ws : List ℕ} {p : Path} → PathIn ws p → (a : ℕ) → a < register_count → term_at ws (get_or p.registers a 0) ≡ term_of (path_of ws p) a
register_term {ws} {p} w a h = sym (map_at (term_at ws) p.registers a (constant 0) (omega (arith, w.sixteen)))

-- a node of a path that has more nodes and variables
pub node_wider : {ws : List ℕ} {p q : Path} {i : ℕ} → p.top ≤ q.top → p.variables ≤ q.variables → NodeIn ws p i → NodeIn ws q i
node_wider h k n = record { below = omega (arith, n.below); bound = omega (arith, n.bound) }

-- ---- words that are kept
pub kept_none : {ws : List ℕ} (p : Path) → Kept ws ws p
kept_none p = record { low = same_refl _ _ _; table = same_refl _ _ _ }

pub kept_then : {ws us vs : List ℕ} {p : Path} → Kept ws us p → Kept us vs p → Kept ws vs p
kept_then a b = record { low = same_trans a.low b.low; table = same_trans a.table b.table }

-- all below the path's top
pub kept_same : {ws us : List ℕ} (p : Path) → p.assumptions ≤ most_assumptions → Same 0 (place p.top) ws us → Kept ws us p
kept_same p few s = record { low = same_within 0 (slot p.assumptions) (omega arith) (omega arith) s; table = same_within table_base (place p.top) (omega arith) (omega arith) s }

-- ---- what they keep
-- a node
module _ {ws us : List ℕ} {p : Path} (s : Same table_base (place p.top) ws us) {i : ℕ} (n : NodeIn ws p i) where
  pub table_term : term_at us i ≡ term_at ws i
  table_term = term_same p.top s i n.below

  pub table_node : NodeIn us p i
  table_node = record { below = n.below; bound = rw table_term n.bound }

module _ {ws us : List ℕ} {p : Path} (k : Kept ws us p) where
  pub node_equal : {i : ℕ} → NodeIn ws p i → term_at us i ≡ term_at ws i
  node_equal n = table_term {p = p} k.table n

  pub node_held : {i : ℕ} → NodeIn ws p i → NodeIn us p i
  node_held n = table_node {p = p} k.table n

  module _ (w : PathIn ws p) where
    assumed_same : Same assumption_base (slot p.assumptions) ws us
    assumed_same = same_within assumption_base (slot p.assumptions) (omega arith) (omega arith) k.low

    -- the path
    pub registers_equal : map (term_at us) p.registers ≡ map (term_at ws) p.registers
    registers_equal = map_same (term_at us) (term_at ws) p.registers (λ v h. node_equal (w.held v (omega (arith, w.sixteen))))

    pub path_equal : path_of us p ≡ path_of ws p
    path_equal = λ i. record {
      counter = p.counter;
      steps = p.steps;
      registers = registers_equal i;
      variables = p.variables;
      assumptions = listed_same assumed_same w.prepared.assumed k.table p.assumptions (omega arith) i;
    }

    -- what a derivation needs, with assumptions that are listed
    pub prepared_held : length us ≡ length ws → {count : ℕ} → Listed us count p.top → Prepared us p.top (record { assumptions = count; variables = p.variables })
    prepared_held e l = let q = w.prepared in record {
      formed = formed_same p.top k.table e q.formed;
      above = q.above;
      registers = record { is = λ v h. term_same p.top k.table (get_or register_nodes v 0) (omega (arith, q.above, register_below v h)) ∙ q.registers.is v h };
      most = q.most;
      assumed = l;
      cleared = record { word = λ j h. k.low.word j (omega arith) (omega arith) ∙ q.cleared.word j h };
    }

    pub path_held : length us ≡ length ws → PathIn us p
    path_held e = record {
      prepared = prepared_held e (held_same assumed_same w.prepared.assumed p.top (omega arith));
      sixteen = w.sixteen;
      held = λ v h. node_held (w.held v h);
      run = w.run;
    }
