-- What the readers' answers say of the path over whose registers they have read. Assumes nothing.
use mathlib.Core.Path.{◌≡◌, refl, sym, ap, ◌∙◌}
use mathlib.Core.Bool.{false}
use mathlib.Core.List.{List, map}
use Prim.Native.Nat.{ℕ}
use native.Mathlib.Omega.{arith}
use lib.ListN.{length}
use Rattle.std.specs.Result.{MatchResult, is_ok}
use Rattle.model.specs.Result.{Result, Err, Ok, map_ok}
use Rattle.model.specs.Term.{Term, substitute}
use Rattle.model.specs.Atom.{Atom, substitute_atom}
use Rattle.model.specs.Expression.{register_count, expression_at, atom_at, most_nodes}
use Rattle.workspace.specs.Room.{atom_nodes}
use Rattle.nodes.specs.Atoms.{atom_in}
use Rattle.nodes.specs.Table.{term_at}
use Rattle.leaf_reader.specs.Leaves.{variable_term, Grown}
use Rattle.leaf_reader.specs.declared.Parsed.{Parsed}
use Rattle.leaf_reader.specs.declared.sources.Source.{Source}
use Rattle.term_reader.specs.Reader.{expression_over, expression_in}
use Rattle.term_reader.proofs.Substitution.{expression_substituted}
use Rattle.atom_reader.specs.AtomReader.{atom_over, atom_read, AtomGrown}
use Rattle.atom_reader.specs.declared.AtomParsed.{AtomParsed}
use Rattle.atom_reader.proofs.Substitution.{atom_substituted}
use Rattle.paths.specs.declared.Path.{Path}
use Rattle.paths.specs.Walking.{raised_to, OverRegisters, NodeIn, PathIn}
use Rattle.paths.proofs.Reading.{same_value}
use Rattle.paths.proofs.Walking.{Above, above_path, registers_terms, registers_bound}

-- ---- answers that are no value
found_mapped : {E A B : Type 0} (f : A → B) (x : Result A E) {b : B} → Ok b ≡ map_ok f x → (a : A) × (x ≡ Ok a) × (b ≡ f a)
found_mapped f (Err e) h = let z : ◌≡◌ {A = ℕ} 0 1 = cc in absurd (omega arith)
found_mapped f (Ok a) h = (a, refl, same_value h)

-- what is not read over other terms is not read
pub not_mapped : {E A B : Type 0} (f : A → B) (x : Result A E) {e : E} {a : A} → Err e ≡ map_ok f x → x ≡ Ok a → ⊥
not_mapped f (Err e) h k = let z : ◌≡◌ {A = ℕ} 0 1 = cc in omega arith
not_mapped f (Ok a) h k = let z : ◌≡◌ {A = ℕ} 0 1 = cc in omega arith

-- a reading whose error becomes another, by what comes of it: Q is what is known where it stops
pub value_read : {E A : Type 0} (F : Type 0) (Q : E → Type 0) (m : Result A E) {a : A} → MatchResult m (λ b. ◌≡◌ {A = Result A F} (Ok a) (Ok b)) Q → ((e : E) → Q e → ⊥) → m ≡ Ok a
value_read F Q (Err e) h n = absurd (n e h)
value_read F Q (Ok b) h n = ap Ok (sym (same_value h))

pub error_read : {E A : Type 0} (m : Result A E) → false ≡ is_ok m → (e : E) × (m ≡ Err e)
error_read (Err e) h = (e, refl)
error_read (Ok b) h = absurd (cc)

-- ---- what a source over the registers of a path says
module _ {path : Path} {bytes : List ℕ} {end : ℕ} {s : Source} (o : OverRegisters path bytes end s) where
  pub source_term : (ws : List ℕ) (at : ℕ) → expression_in ws s at ≡ expression_over (variable_term ws path.registers) (expression_at bytes end register_count at)
  source_term ws at = rw (o.bytes_are, o.end_is, o.limit_is, o.registers_are)

  pub source_atom : (ws : List ℕ) (at : ℕ) → atom_read ws s at ≡ atom_over (variable_term ws path.registers) (atom_at bytes end register_count at)
  source_atom ws at = rw (o.bytes_are, o.end_is, o.limit_is, o.registers_are)

-- ---- what is found
module _ (ws us source : List ℕ) (path : Path) (end at : ℕ) where
  pub record TermFound (x : Parsed) : Type 0 where
    pub above : Above ws us path x.top most_nodes
    pub node : NodeIn us (raised_to path x.top) x.node
    pub term : Term
    pub read : expression_at source end register_count at ≡ Ok (term, x.next)
    pub is : term_at us x.node ≡ substitute (map (term_at ws) path.registers) term

  pub record AtomFound (x : AtomParsed) : Type 0 where
    pub above : Above ws us path x.top atom_nodes
    pub left_node : NodeIn us (raised_to path x.top) x.atom.left
    pub right_node : NodeIn us (raised_to path x.top) x.atom.right
    pub term : Atom
    pub read : atom_at source end register_count at ≡ Ok (term, x.next)
    pub is : atom_in us x.atom ≡ substitute_atom (map (term_at ws) path.registers) term

module _ {ws us source : List ℕ} {path : Path} {end at : ℕ} (y : PathIn ws path) (size : length us ≡ length ws) where
  pub term_found : {x : Parsed} {s : Source} → OverRegisters path source end s → Grown ws us s.end path.top most_nodes (Ok x) → Ok (term_at us x.node, x.next) ≡ expression_in ws s at → TermFound ws us source path end at x
  term_found {x} o g a =
      let (t, read, pair) = found_mapped _ _ (a ∙ source_term o ws at ∙ expression_substituted (registers_terms y) source end at) in
      let is : term_at us x.node ≡ substitute (map (term_at ws) path.registers) t.0 = ap (λ z. z.0) pair in
      record {
        above = above_path y g.found.grows (omega (arith, g.found.few)) g.found.formed g.kept size;
        node = record { below = g.found.node_in_table; bound = rw is (registers_bound y t.0) };
        term = t.0;
        read = read ∙ ap (λ z. Ok (t.0, z.1)) (sym pair);
        is = is;
      }

  pub atom_found : {x : AtomParsed} {s : Source} → OverRegisters path source end s → AtomGrown ws us s.end path.top (Ok x) → Ok (atom_in us x.atom, x.next) ≡ atom_read ws s at → AtomFound ws us source path end at x
  unfolding substitute_atom
  atom_found {x} o g a =
      let (t, read, pair) = found_mapped _ _ (a ∙ source_atom o ws at ∙ atom_substituted (registers_terms y) source end at) in
      let left_is : term_at us x.atom.left ≡ substitute (map (term_at ws) path.registers) t.0.left = ap (λ z. z.0.left) pair in
      let right_is : term_at us x.atom.right ≡ substitute (map (term_at ws) path.registers) t.0.right = ap (λ z. z.0.right) pair in
      record {
        above = above_path y g.found.grows g.found.few g.found.formed g.kept size;
        left_node = record { below = g.found.in_table.0; bound = rw left_is (registers_bound y t.0.left) };
        right_node = record { below = g.found.in_table.1; bound = rw right_is (registers_bound y t.0.right) };
        term = t.0;
        read = read ∙ ap (λ z. Ok (t.0, z.1)) (sym pair);
        is = ap (λ z. z.0) pair;
      }
