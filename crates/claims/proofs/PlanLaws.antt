-- Laws of plans, and of the ways in which a rule does not fit. Assumes nothing.
use mathlib.Core.Path.{◌≡◌, ◌∙◌}
use mathlib.Core.List.{List, ◌∷◌, []}
use Prim.Native.Nat.{ℕ, suc, ◌+◌, ◌<◌}
use native.Mathlib.Omega.{arith}
use lib.ListN.{length}
use Rattle.std.specs.Prelude.{map}
use Rattle.std.specs.List.{All}
use Rattle.std.proofs.lemmas.List.Elements.{All-cons, All-nil}
use Rattle.model.specs.Result.{Fit, Ok}
use Rattle.model.specs.Term.{Term}
use Rattle.model.specs.Atom.{Atom}
use Rattle.model.specs.Policy.{Policy}
use Rattle.model.specs.Goals.{Goal}
use Rattle.workspace.specs.Layout.{table_base, hint_base, Same}
use Rattle.nodes.specs.Atoms.{atom_in, AtomBelow}
use Rattle.nodes.specs.declared.Atom.{Atom as NodeAtom}
use Rattle.nodes.specs.Table.{place, term_at, Formed, Put}
use Rattle.workspace.proofs.Frames.{same_refl, same_trans, same_within}
use Rattle.nodes.proofs.Table.{term_same, formed_same, formed_less}
use Rattle.claims.specs.Plan.{Plans, Grows, Planned}
use Rattle.claims.specs.declared.Plan.{Plan}

-- a table's shorter part, up to a node of it
pub formed_at : {ws : List ℕ} {top i : ℕ} → Formed ws top → i < top → Formed ws (suc i)
formed_at f h = formed_less _ h f

pub kept_term : {ws us : List ℕ} {top i : ℕ} → Same 0 (place top) ws us → i < top → term_at us i ≡ term_at ws i
kept_term {top = top} {i = i} s h = term_same top (same_within table_base (place top) (omega arith) (omega arith) s) i h

-- ---- plans
pub stays : {ws : List ℕ} {top : ℕ} → Formed ws top → Grows ws ws top top
stays {ws} {top} f = record { kept = same_refl 0 (place top) ws; formed = f; above = omega arith; few = omega arith }

-- where hints alone are changed
pub stays_hinted : {ws us : List ℕ} {top : ℕ} → Formed ws top → Same 0 hint_base ws us → length us ≡ length ws → Grows ws us top top
stays_hinted {top = top} f s e = record {
  kept = same_within 0 (place top) (omega arith) (omega (arith, f.shaped.fits)) s;
  formed = formed_same top (same_within table_base (place top) (omega arith) (omega (arith, f.shaped.fits)) s) e f;
  above = omega arith;
  few = omega arith;
}

-- each of these comparisons is of nodes below high
abbrev pub EachBelow : (high : ℕ) → List NodeAtom → Type 0
EachBelow high [] = Unit {0}
EachBelow high (a ∷ rest) = AtomBelow high a × EachBelow high rest

all_below : (high : ℕ) (atoms : List NodeAtom) → EachBelow high atoms → All (AtomBelow high) atoms
all_below high [] h = All-nil (AtomBelow high)
all_below high (a ∷ rest) h = All-cons (AtomBelow high) a rest h.0 (all_below high rest h.1)

-- the rule has these premises
pub fits : {Where : Policy → Goal → Type 0} {asked : Policy → Goal → Fit (List Atom)} {ws us : List ℕ} {top high : ℕ} {p : Plan} {premises : List NodeAtom} → Grows ws us top high → Plans premises high p → EachBelow high premises
    → ((policy : Policy) (g : Goal) → Where policy g → Ok (map (atom_in us) premises) ≡ asked policy g) → Planned Where asked ws us top (Ok p)
fits {high = high} {premises = premises} y e b s = record {
  says = λ policy g w. rw (e.premises_are) (s policy g w);
  grows = rw (e.top_is) y;
  below = rw (e.premises_are, e.top_is) (all_below high premises b);
}

-- ---- two new nodes
module _ {ws us vs : List ℕ} {top : ℕ} {m n : Term} (x : Put ws us top m) (y : Put us vs (top + 1) n) where
  pub two_put : Grows ws vs top (top + 2)
  two_put = record {
    kept = same_trans x.kept (same_within {hi = place (top + 1)} 0 (place top) (omega arith) (omega arith) y.kept);
    formed = formed_less (top + 2) (omega arith) y.formed;
    above = omega arith;
    few = omega arith;
  }

  -- the first of them is kept when the second is put
  pub first_is : term_at vs top ≡ m
  first_is = term_same (top + 1) (same_within table_base (place (top + 1)) (omega arith) (omega arith) y.kept) top (omega arith) ∙ x.is
