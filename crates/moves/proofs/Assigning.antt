-- Nodes put above a path's top, and assignments of them. Assumes nothing.
use mathlib.Core.Path.{◌≡◌, refl, sym, ap, ap₂, subst, ◌∙◌}
use mathlib.Core.Bool.{Bool, true, false}
use mathlib.Core.List.{List, [], ◌∷◌}
use Prim.Native.Nat.{ℕ, ◌+◌, ◌<◌, ◌≤◌}
use native.Mathlib.Numerals.{add-one}
use native.Mathlib.Omega.{arith}
use lib.Dec.{leb}
use lib.ListN.{length, get_or}
use Rattle.model.specs.Result.{Result, Ok, Err}
use Rattle.model.specs.Term.{Term, constant, shift, size}
use Rattle.model.specs.Linear.{variable_bound}
use Rattle.model.specs.Goals.{Path as ModelPath, term_of, onward, path_to, assigning, goes, small_enough, assign, most_term_nodes}
use Rattle.model.specs.declared.Refusal.{Refusal}
use Rattle.model.specs.declared.Refusal.TheVariants.{LargeTerm}
use Rattle.model.specs.Expression.{register_count}
use Rattle.workspace.specs.Layout.{table_base}
use Rattle.nodes.specs.declared.Operation.{Operation}
use Rattle.nodes.specs.declared.Operation.TheVariants.{Sum, Difference, Mask}
use Rattle.nodes.specs.Table.{operation_of, place, term_at, Put}
use Rattle.workspace.proofs.Frames.{same_trans, same_within}
use Rattle.nodes.proofs.Table.{term_same}
use Rattle.paths.specs.declared.Path.{Path}
use Rattle.moves.specs.declared.Moved.TheVariants.{On}
use Rattle.paths.specs.Walking.{path_of, raised_to, NodeIn, PathIn, stepped_to, written_to, Kept}
use Rattle.moves.specs.Moves.{RoomFor, Built, Advanced, MoveJudged, assigned_as, Assigns}
use Rattle.goals.proofs.Judging.{judges_none}
use Rattle.moves.proofs.Moving.{move_on, move_refused}
use Rattle.paths.proofs.Kept.{kept_same, path_held, path_equal, register_term}
use Rattle.paths.proofs.Walking.{path_raised}
use Rattle.moves.proofs.PathLaws.{path_written, written_path, path_stepped}

-- ---- nodes above the top
operation_bound : (operation : Operation) (s t : Term) (n : ℕ) → variable_bound s ≤ n → variable_bound t ≤ n → variable_bound (operation_of operation s t) ≤ n
unfolding variable_bound
operation_bound Sum s t n h k = omega arith
operation_bound Difference s t n h k = omega arith
operation_bound Mask s t n h k = omega arith

shift_bound : (count : ℕ) (s : Term) (n : ℕ) → variable_bound s ≤ n → variable_bound (shift count s) ≤ n
unfolding variable_bound
shift_bound count s n h = h

constant_bound : (c n : ℕ) → variable_bound (constant c) ≤ n
unfolding variable_bound
constant_bound c n = omega arith

-- the term of a register's node
named_term : {ws : List ℕ} {path : Path} {a x : ℕ} → PathIn ws path → a < register_count → x ≡ get_or path.registers a 0 → term_at ws x ≡ term_of (path_of ws path) a
named_term {ws} {a = a} w h e = ap (term_at ws) e ∙ register_term w a h

module _ {ws us : List ℕ} {path : Path} (w : PathIn ws path) (long : length us ≡ length ws) where
  put_built : {t : Term} → variable_bound t ≤ path.variables → Put ws us path.top t → Built ws us path 1 path.top t
  put_built b u =
      let v : PathIn us path = path_held (kept_same path w.prepared.assumed.few u.kept) w long in
      record {
        path_in = path_raised (path.top + 1) (omega arith) (rw (add-one path.top) u.formed) v;
        node_in = record { below = omega arith; bound = rw u.is b };
        means = u.is;
        same = u.kept;
      }

  pub constant_built : {c : ℕ} → Put ws us path.top (constant c) → Built ws us path 1 path.top (constant c)
  constant_built {c} u = put_built (constant_bound c path.variables) u

  module _ {a x : ℕ} (ha : a < register_count) (ex : x ≡ get_or path.registers a 0) where
    pub shift_built : {count : ℕ} → Put ws us path.top (shift count (term_at ws x)) → Built ws us path 1 path.top (shift count (term_of (path_of ws path) a))
    shift_built {count} u = rw (← named_term w ha ex) (put_built (shift_bound count _ path.variables (rw ex (w.held a ha).bound)) u)

    module _ {b y : ℕ} (hb : b < register_count) (ey : y ≡ get_or path.registers b 0) where
      pub pair_built : (operation : Operation) → Put ws us path.top (operation_of operation (term_at ws x) (term_at ws y)) → Built ws us path 1 path.top (operation_of operation (term_of (path_of ws path) a) (term_of (path_of ws path) b))
      pair_built operation u = rw (← named_term w ha ex, ← named_term w hb ey) (put_built (operation_bound operation _ _ path.variables (rw ex (w.held a ha).bound) (rw ey (w.held b hb).bound)) u)

-- the nodes of two registers
pub pair_below : {ws : List ℕ} {path : Path} {a b x y : ℕ} → a < register_count → b < register_count → x ≡ get_or path.registers a 0 → y ≡ get_or path.registers b 0 → PathIn ws path → (x < path.top) × (y < path.top)
pair_below {a = a} {b} ha hb ex ey w = (rw ex (w.held a ha).below, rw ey (w.held b hb).below)

-- a constant, and an operation on a register's term and it
module _ {ws us vs : List ℕ} {path : Path} (w : PathIn ws path) (long : length us ≡ length ws) (longer : length vs ≡ length us)
    {a x i : ℕ} (operation : Operation) (ha : a < register_count) (ex : x ≡ get_or path.registers a 0)
    (u : Put ws us path.top (constant i)) (v : Put us vs (path.top + 1) (operation_of operation (term_at us x) (term_at us path.top))) where
  pub built_with : Built ws vs path 2 (path.top + 1) (operation_of operation (term_of (path_of ws path) a) (constant i))
  built_with =
      let one : Built ws us path 1 path.top (constant i) = constant_built w long u in
      let inside : x < path.top = rw ex (w.held a ha).below in
      let left : term_at us x ≡ term_of (path_of ws path) a = term_same path.top (same_within table_base (place path.top) (omega arith) (omega arith) u.kept) x inside ∙ named_term w ha ex in
      let bound : variable_bound (term_at us x) ≤ path.variables = rw ex (one.path_in.held a ha).bound in
      let other : variable_bound (term_at us path.top) ≤ path.variables = one.node_in.bound in
      let two : Built us vs (raised_to path (path.top + 1)) 1 (path.top + 1) (operation_of operation (term_at us x) (term_at us path.top)) = put_built one.path_in longer (operation_bound operation _ _ path.variables bound other) v in
      let higher : path.top + 1 + 1 ≡ path.top + 2 = omega arith in
      record {
        path_in = subst (λ n. PathIn vs (raised_to path n)) higher two.path_in;
        node_in = subst (λ n. NodeIn vs (raised_to path n) (path.top + 1)) higher two.node_in;
        means = two.means ∙ ap₂ (operation_of operation) left u.is;
        same = same_trans u.kept (same_within 0 (place path.top) (omega arith) (omega arith) v.kept);
      }

-- ---- assignments
module _ {ws us : List ℕ} {path : Path} {d count node : ℕ} {t : Term} (g : RoomFor ws path 1) (long : length us ≡ length ws) (below : d < register_count) (few : count ≤ 3) (b : Built ws us path count node t) where
  kept : Kept ws us path
  kept = kept_same path g.path_in.prepared.assumed.few b.same

  abbrev higher : Path
  higher = raised_to path (path.top + count)

  abbrev after : Path
  after = stepped_to (written_to higher d node) (path.counter + 1)

  means : onward (assigning (path_of ws path) d t) ≡ path_of us after
  means =
      ap₂ (λ (s : ModelPath) (x : Term). onward (assigning s d x)) (sym (path_equal kept g.path_in)) (sym b.means)
      ∙ ap (λ (s : ModelPath). path_to s (path.counter + 1)) (sym (written_path b.path_in d node))

  advanced : Advanced us path after
  advanced = record {
    path_in = path_stepped (path_written b.path_in below b.node_in) (path.counter + 1) (omega (arith, g.run));
    steps = refl;
    above = omega arith;
    nodes = omega arith;
    more = omega arith;
    variables = omega arith;
    listed = omega arith;
    assumptions = omega arith;
  }

  by_size : (small : Bool) → leb (size t) most_term_nodes ≡ small → Assigns ws us path d t (assigned_as small higher d node)
  unfolding assigned_as assign small_enough
  by_size true e = record {
    moves = λ bytes credit p h. record {
      judged = λ policy routine _. subst (λ m. MoveJudged bytes policy routine credit us m p (Ok (On after p))) (ap (λ s. goes [] (s ∷ [])) (sym means) ∙ sym (rw (e, assign))) (move_on judges_none);
      kept = kept;
      leads = (advanced, refl, h);
    };
  }
  by_size false e = record {
    moves = λ bytes credit p h. record {
      judged = λ policy routine _. subst (λ m. MoveJudged bytes policy routine credit us m p (Err (record { refusal = LargeTerm path.counter; goals = p.goals }))) (sym (rw (e, assign))) (move_refused (LargeTerm path.counter));
      kept = kept;
      leads = tt;
    };
  }

  pub built_assigns : {r : Result Path Refusal} {raised : Path} → raised ≡ higher → r ≡ assigned_as (leb (size (term_at us node)) most_term_nodes) raised d node → Assigns ws us path d t r
  built_assigns h e = subst (λ m. Assigns ws us path d t m) (ap₂ (λ (x : Term) (q : Path). assigned_as (leb (size x) most_term_nodes) q d node) (sym b.means) (sym h) ∙ sym e) (by_size (leb (size t) most_term_nodes) refl)

-- the two ways out of an assignment
module _ {b c : Bool} (path : Path) (d node : ℕ) (e : b ≡ c) where
  pub assigned_on : {w s : Path} → b ≡ true → w ≡ written_to path d node → s ≡ stepped_to w (path.counter + 1) → Ok s ≡ assigned_as c path d node
  unfolding assigned_as
  assigned_on h ew es = rw (es, ew) (ap (λ x. assigned_as x path d node) (sym h ∙ e))

  pub assigned_not : b ≡ false → Err (LargeTerm path.counter) ≡ assigned_as c path d node
  unfolding assigned_as
  assigned_not h = ap (λ x. assigned_as x path d node) (sym h ∙ e)
