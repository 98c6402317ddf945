-- The laws of `expression_at`, `atom_at` and `atoms_at`, one for each way out of the code. Assumes nothing.
use Prim.Native.Nat.{ℕ, suc, ◌+◌, ◌-◌, ◌≤◌, ◌<◌, max}
use mathlib.Core.Path.{◌≡◌, refl, ap, ◌∙◌}
use mathlib.Core.List.{List, ◌∷◌}
use mathlib.Core.Option.{Option, none, some}
use native.Mathlib.Omega.{arith}
use lib.ListN.{get_or, get_elem?}
use Rattle.model.specs.Result.{Result, Err, Ok, ◌>>=◌, found, map_ok, map_err}
use Rattle.model.specs.declared.ReadError.{ReadError}
use Rattle.model.specs.declared.ReadError.TheVariants.{Missing, Fault}
use Rattle.model.specs.Expression.{comparisons, most_nodes, Nodes, nodes_at, expression_at, atom_at, atoms_at}
use Rattle.model.specs.declared.Comparison.{Comparison}
use Rattle.expressions.specs.declared.scanning.Scanned.{Scanned}
use Rattle.expressions.specs.Scanning.{scanned_of}
use Rattle.expressions.specs.Reading.{ends}
use Rattle.expressions.proofs.ScanningLaws.{byte_missing, byte_there}

-- ---- what a reading is, from where it ends

module _ {A : Type 0} where
  pub read_next : (x : Result (A × ℕ) ReadError) (q : ℕ) → Ok q ≡ ends x → (a : A) × (x ≡ Ok (a, q))
  unfolding ends
  read_next (Err e) q h = absurd (cc)
  read_next (Ok (a, q')) q h = let same : q ≡ q' = cc in (a, rw same)

  pub read_stops : (x : Result (A × ℕ) ReadError) (e : ReadError) → Err e ≡ ends x → x ≡ Err e
  unfolding ends
  read_stops (Err e') e h = let same : e ≡ e' = cc in rw same
  read_stops (Ok (a, q)) e h = absurd (cc)

  -- a reading that stops stops what follows
  pub still_stops : {B : Type 0} (x : Result (A × ℕ) ReadError) (k : A × ℕ → Result (B × ℕ) ReadError) (e : ReadError) → Err e ≡ ends x → Err e ≡ ends (x >>= k)
  unfolding ends ◌>>=◌
  still_stops x k e h = rw (read_stops x e h)

  -- the value does not show
  same_end : {B : Type 0} (f : A → B) (x : Result (A × ℕ) ReadError) → ends x ≡ ends (x >>= λ y. Ok (f y.0, y.1))
  unfolding ends ◌>>=◌
  same_end f (Err e) = refl
  same_end f (Ok y) = refl

-- what is looked for and is not there is the error that stands for it
pub fault_found : {A E F : Type 0} (x : Option A) (m : E) (e : F) {r : Result A F} → r ≡ map_err (λ _. e) (found x m) → r ≡ found x e
unfolding found map_err
fault_found none m e h = h
fault_found (some a) m e h = h

-- ---- an expression

-- where a scan ends
abbrev ended : Result Scanned ReadError → Result ℕ ReadError
ended r = map_ok (λ s. s.next) r

ended_scan : (x : Nodes) → ended (scanned_of x) ≡ ends (x >>= λ y. Ok (y.0, y.1))
unfolding scanned_of ends ◌>>=◌
ended_scan (Err e) = refl
ended_scan (Ok y) = refl

module _ (bytes : List ℕ) (end limit at : ℕ) where
  expression_end : (r : Result Scanned ReadError) → ((depth : ℕ) → most_nodes ≤ depth → r ≡ scanned_of (nodes_at bytes end limit depth most_nodes at)) → ended r ≡ ends (expression_at bytes end limit at)
  unfolding expression_at
  expression_end r scans = ap ended (scans most_nodes (omega arith)) ∙ ended_scan (nodes_at bytes end limit most_nodes most_nodes at)

  pub expression_stops : (e : ReadError) → ((depth : ℕ) → most_nodes ≤ depth → Err e ≡ scanned_of (nodes_at bytes end limit depth most_nodes at)) → Err e ≡ ends (expression_at bytes end limit at)
  expression_stops e scans = expression_end (Err e) scans

  pub expression_read : (s : Scanned) → ((depth : ℕ) → most_nodes ≤ depth → Ok s ≡ scanned_of (nodes_at bytes end limit depth most_nodes at)) → Ok s.next ≡ ends (expression_at bytes end limit at)
  expression_read s scans = expression_end (Ok s) scans

  -- ---- an atom

  pub atom_missing : end ≤ at → Err Missing ≡ ends (atom_at bytes end limit at)
  unfolding atom_at ◌>>=◌ ends
  atom_missing h = rw (byte_missing bytes end at h, atom_at)

  -- the atom from its comparison on
  from_kind : at < end → (found (get_elem? comparisons (get_or bytes at 0)) (Fault at) >>= λ kind. expression_at bytes end limit (at + 1) >>= λ y. expression_at bytes end limit y.1 >>= λ z. Ok (record { kind = kind; left = y.0; right = z.0 }, z.1)) ≡ atom_at bytes end limit at
  unfolding atom_at ◌>>=◌
  from_kind h = rw (byte_there bytes end at h, atom_at)

  module _ (here : at < end) {known : Result Comparison ReadError} (is : known ≡ found (get_elem? comparisons (get_or bytes at 0)) (Fault at)) where
    -- the atom from the comparison that is known on
    from_known : (known >>= λ kind. expression_at bytes end limit (at + 1) >>= λ y. expression_at bytes end limit y.1 >>= λ z. Ok (record { kind = kind; left = y.0; right = z.0 }, z.1)) ≡ atom_at bytes end limit at
    from_known = rw is (from_kind here)

    pub atom_tag : (e : ReadError) → known ≡ Err e → Err e ≡ ends (atom_at bytes end limit at)
    unfolding ◌>>=◌ ends
    atom_tag e stops = rw (← from_known, stops) refl

    module _ (kind : Comparison) (there : known ≡ Ok kind) where
      -- the atom from its first expression on
      from_first : (expression_at bytes end limit (at + 1) >>= λ y. expression_at bytes end limit y.1 >>= λ z. Ok (record { kind = kind; left = y.0; right = z.0 }, z.1)) ≡ atom_at bytes end limit at
      unfolding ◌>>=◌
      from_first = rw there at from_known

      pub atom_stops : (e : ReadError) → Err e ≡ ends (expression_at bytes end limit (at + 1)) → Err e ≡ ends (atom_at bytes end limit at)
      atom_stops e first = rw (← from_first) (still_stops (expression_at bytes end limit (at + 1)) _ e first)

      pub atom_both : (q : ℕ) → Ok q ≡ ends (expression_at bytes end limit (at + 1)) → (second : Result ℕ ReadError) → second ≡ ends (expression_at bytes end limit q) → second ≡ ends (atom_at bytes end limit at)
      unfolding ◌>>=◌
      atom_both q first second s =
          let v = read_next (expression_at bytes end limit (at + 1)) q first in
          rw (← from_first, v.1) (s ∙ same_end (λ u. record { kind = kind; left = v.0; right = u }) (expression_at bytes end limit q))

-- ---- atoms

-- the invariant: where the whole run ends is where the run from here ends
pub record Going (bytes : List ℕ) (end limit count at read next : ℕ) : Type 0 where
  pub rest : ends (atoms_at bytes end limit (count - read) next) ≡ ends (atoms_at bytes end limit count at)
  pub inside : next ≤ max at end

module _ (bytes : List ℕ) (end limit count at read next : ℕ) (G : Going bytes end limit count at read next) where
  pub atoms_read : count ≤ read → Ok next ≡ ends (atoms_at bytes end limit count at)
  unfolding atoms_at ends
  atoms_read h = let z : count - read ≡ 0 = omega arith in rw z at G.rest

  module _ (more : read < count) where
    -- the run from its first atom on
    from_atom : (atom_at bytes end limit next >>= λ y. atoms_at bytes end limit (count - (read + 1)) y.1 >>= λ z. Ok (y.0 ∷ z.0, z.1)) ≡ atoms_at bytes end limit (count - read) next
    unfolding atoms_at
    from_atom = let s : suc (count - (read + 1)) ≡ count - read = omega arith in ap (λ n. atoms_at bytes end limit n next) s

    pub atoms_stop : (e : ReadError) → Err e ≡ ends (atom_at bytes end limit next) → Err e ≡ ends (atoms_at bytes end limit count at)
    atoms_stop e one = rw (← G.rest, ← from_atom) (still_stops (atom_at bytes end limit next) _ e one)

    pub going_on : (q : ℕ) → Ok q ≡ ends (atom_at bytes end limit next) → q ≤ end → Going bytes end limit count at (read + 1) q
    unfolding ◌>>=◌
    going_on q one i =
        let v = read_next (atom_at bytes end limit next) q one in
        record {
          rest = rw (← G.rest, ← from_atom, v.1) (same_end (λ u. v.0 ∷ u) (atoms_at bytes end limit (count - (read + 1)) q));
          inside = omega arith;
        }
