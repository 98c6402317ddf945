-- Laws of the model's reading of an atom, with a term for each variable. Assumes nothing.
use mathlib.Core.Path.{◌≡◌, refl, sym, ap, ◌∙◌}
use mathlib.Core.Option.{Option, none, some}
use mathlib.Core.List.{List}
use Prim.Native.Nat.{ℕ, ◌+◌, ◌<◌, ◌≤◌}
use native.Mathlib.Omega.{arith}
use lib.ListN.{get_or, get_elem?}
use borrow.Author.Tests.{le-leb, lt-leb}
use Rattle.std.specs.Result.{MatchResult}
use Rattle.model.specs.Result.{Result, Err, Ok, ◌>>=◌, check, found, misfit}
use Rattle.model.specs.declared.Misfit.{Misfit}
use Rattle.model.specs.Term.{Term}
use Rattle.model.specs.Atom.{Atom}
use Rattle.model.specs.Field.{byte_at}
use Rattle.model.specs.declared.ReadError.{ReadError}
use Rattle.model.specs.declared.ReadError.TheVariants.{Missing, Fault}
use Rattle.model.specs.Expression.{comparisons, expression_at, atom_at}
use Rattle.model.specs.declared.Comparison.{Comparison}
use Rattle.leaf_reader.specs.Leaves.{over}
use Rattle.term_reader.specs.Reader.{expression_over}
use Rattle.atom_reader.specs.AtomReader.{atom_over}

-- ---- the comparison of a tag, t, as it is asked for: P is what is known where there is none
module _ (P : Misfit → Type 0) {o : Option Comparison} {t : Result Comparison Misfit} where
  pub no_kind : {e f : ReadError} → (P misfit → e ≡ f) → t ≡ found o misfit → MatchResult t (λ x. ◌≡◌ {A = Result Comparison ReadError} (Err e) (Ok x)) P → (o ≡ none) × (e ≡ f)
  unfolding found
  no_kind {e} {f} n k h = go o (rw k at h)
    where
      go : (o : Option Comparison) → MatchResult (found o misfit) (λ x. ◌≡◌ {A = Result Comparison ReadError} (Err e) (Ok x)) P → (o ≡ none) × (e ≡ f)
      go none h = (refl, n h)
      go (some x) h = cc

  pub kind_found : {kind : Comparison} → (P misfit → ⊥) → t ≡ found o misfit → MatchResult t (λ x. ◌≡◌ {A = Result Comparison ReadError} (Ok kind) (Ok x)) P → o ≡ some kind
  unfolding found
  kind_found {kind} n k h = go o (rw k at h)
    where
      go : (o : Option Comparison) → MatchResult (found o misfit) (λ x. ◌≡◌ {A = Result Comparison ReadError} (Ok kind) (Ok x)) P → o ≡ some kind
      go none h = absurd (n h)
      go (some x) h = cc

-- ---- two expressions as the sides of an atom
abbrev pub two_sides : Comparison → Result (Term × ℕ) ReadError → (ℕ → Result (Term × ℕ) ReadError) → Result (Atom × ℕ) ReadError
two_sides kind x y = do
  (s, q) ← x
  (t, r) ← y q
  Ok (record { kind = kind; left = s; right = t }, r)

abbrev right_side : Comparison → Term → Result (Term × ℕ) ReadError → Result (Atom × ℕ) ReadError
right_side kind s y = y >>= (λ z. Ok (record { kind = kind; left = s; right = z.0 }, z.1))

module _ (σ : ℕ → Term) (kind : Comparison) where
  right_over : (s : Term) (y : Result (Term × ℕ) ReadError) → atom_over σ (right_side kind s y) ≡ right_side kind (over σ s) (expression_over σ y)
  unfolding ◌>>=◌
  right_over s (Err e) = refl
  right_over s (Ok z) = refl

  pub sides_over : (x : Result (Term × ℕ) ReadError) (y : ℕ → Result (Term × ℕ) ReadError) → atom_over σ (two_sides kind x y) ≡ two_sides kind (expression_over σ x) (λ q. expression_over σ (y q))
  unfolding ◌>>=◌
  sides_over (Err e) y = refl
  sides_over (Ok z) y = right_over z.0 (y z.1)

-- ---- the atom at a position
module _ (σ : ℕ → Term) (bytes : List ℕ) (end limit at : ℕ) where
  pub atom_missing : end ≤ at → Err Missing ≡ atom_over σ (atom_at bytes end limit at)
  unfolding atom_at byte_at ◌>>=◌ check
  atom_missing h = rw (lt-leb (at + 1) end (omega arith))

  module _ (h : at < end) where
    pub atom_unknown : {e : ReadError} → get_elem? comparisons (get_or bytes at 0) ≡ none → e ≡ Fault at → Err e ≡ atom_over σ (atom_at bytes end limit at)
    unfolding atom_at byte_at ◌>>=◌ check found
    atom_unknown k f = rw (f, le-leb (at + 1) end (omega arith), k)

    module _ {kind : Comparison} (k : get_elem? comparisons (get_or bytes at 0) ≡ some kind) where
      atom_sides : two_sides kind (expression_at bytes end limit (at + 1)) (λ q. expression_at bytes end limit q) ≡ atom_at bytes end limit at
      unfolding atom_at byte_at ◌>>=◌ check found
      atom_sides = rw (le-leb (at + 1) end (omega arith), k)

      -- once the left side is read
      from_left : {x : Result (Term × ℕ) ReadError} → x ≡ expression_over σ (expression_at bytes end limit (at + 1)) → two_sides kind x (λ q. expression_over σ (expression_at bytes end limit q)) ≡ atom_over σ (atom_at bytes end limit at)
      from_left a =
          ap (λ x. two_sides kind x (λ q. expression_over σ (expression_at bytes end limit q))) a
          ∙ sym (sides_over σ kind (expression_at bytes end limit (at + 1)) (λ q. expression_at bytes end limit q))
          ∙ ap (atom_over σ) atom_sides

      pub left_refused : {e : ReadError} → Err e ≡ expression_over σ (expression_at bytes end limit (at + 1)) → Err e ≡ atom_over σ (atom_at bytes end limit at)
      unfolding ◌>>=◌
      left_refused a = from_left a

      -- and the right side, over terms τ that are the same
      module _ {a : Term} {p : ℕ} (left : Ok (a, p) ≡ expression_over σ (expression_at bytes end limit (at + 1))) {τ : ℕ → Term} (same : τ ≡ σ) where
        from_right : {x : Result (Term × ℕ) ReadError} → x ≡ expression_over τ (expression_at bytes end limit p) → right_side kind a x ≡ atom_over σ (atom_at bytes end limit at)
        unfolding ◌>>=◌
        from_right q = rw (q, same) (from_left left)

        pub right_refused : {e : ReadError} → Err e ≡ expression_over τ (expression_at bytes end limit p) → Err e ≡ atom_over σ (atom_at bytes end limit at)
        unfolding ◌>>=◌
        right_refused q = from_right q

        pub sides_read : {b c : Term} {r : ℕ} → Ok (b, r) ≡ expression_over τ (expression_at bytes end limit p) → c ≡ a → Ok (record { kind = kind; left = c; right = b }, r) ≡ atom_over σ (atom_at bytes end limit at)
        unfolding ◌>>=◌
        sides_read q e = rw e (from_right q)
