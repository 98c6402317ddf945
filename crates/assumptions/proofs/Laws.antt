-- Laws of the assumptions in the workspace. Assumes nothing.
use mathlib.Core.Path.{◌≡◌, refl, sym, subst, ◌∙◌}
use mathlib.Core.Logic.{⊎_elim}
use mathlib.Core.Option.{some, none}
use mathlib.Core.List.{List, [], ◌∷◌, ◌++◌}
use Prim.Native.Nat.{ℕ, zero, suc, ◌+◌, ◌*◌, ◌/◌, ◌%◌, ◌^◌, ◌<◌, ◌≤◌}
use native.Mathlib.Nat.{eq-or-lt_of_le, le_of_suc-le-suc}
use native.Mathlib.Numerals.{add-one}
use native.Mathlib.Omega.{arith}
use lib.ListN.{length, set, get_elem?, length-append}
use lib.Seq.{get_or-set_same}
use Rattle.model.specs.Atom.{Atom, tag_of}
use Rattle.model.specs.Result.{found, misfit, Ok}
use Rattle.model.specs.Expression.{comparisons}
use Rattle.model.specs.declared.Comparison.{Comparison}
use Rattle.model.specs.Verdict.{least_workspace}
use Rattle.workspace.specs.Layout.{assumption_base, most_assumptions, table_base, most_table_nodes, Same}
use Rattle.model.specs.declared.Comparison.TheVariants.{Equal, Unequal, Less, AtMost}
use Rattle.nodes.specs.Table.{low, high, place, Formed}
use Rattle.workspace.proofs.Frames.{same_within, set_before, set_after}
use Rattle.nodes.proofs.Table.{term_same, formed_same}
use Rattle.nodes.specs.Atoms.{atom_in}
use Rattle.assumptions.specs.Area.{slot, kind_of, packed, unpacked, entry_of, listed, Listed, Pushed}

-- ---- words that keep the area: the entries are the same
module _ {ws us : List ℕ} where
  pub entry_same : (count : ℕ) → Same assumption_base (slot count) ws us → (k : ℕ) → k < count → entry_of us k ≡ entry_of ws k
  unfolding entry_of
  entry_same count s k h = rw (s.word (slot k) (omega arith) (omega arith))

  module _ {count top : ℕ} (s : Same assumption_base (slot count) ws us) (l : Listed ws count top) where
    pub held_same : (t : ℕ) → top ≤ t → Listed us count t
    held_same t h = record { few = l.few; held = λ k m. rw (entry_same count s k m) (omega (arith, (l.held k m).0), omega (arith, (l.held k m).1)) }

    -- words that keep the table besides: the atoms are the same
    module _ (t : Same table_base (place top) ws us) where
      atom_same : (k : ℕ) → k < count → atom_in us (entry_of us k) ≡ atom_in ws (entry_of ws k)
      atom_same k h = rw (entry_same count s k h, term_same top t (entry_of ws k).left (l.held k h).0, term_same top t (entry_of ws k).right (l.held k h).1)

      pub listed_same : (n : ℕ) → n ≤ count → listed us n ≡ listed ws n
      unfolding listed
      listed_same zero h = refl
      listed_same (suc n) h = rw (listed_same n (omega arith), atom_same n h)

  -- the same from one interval, below the top of the table
  module _ {count top : ℕ} (s : Same assumption_base (place top) ws us) (l : Listed ws count top) where
    pub held_kept : (t : ℕ) → top ≤ t → Listed us count t
    held_kept = held_same (same_within assumption_base (slot count) (omega arith) (omega (arith, l.few)) s) l

    pub listed_kept : listed us count ≡ listed ws count
    listed_kept = listed_same (same_within assumption_base (slot count) (omega arith) (omega (arith, l.few)) s) l (same_within table_base (place top) (omega arith) (omega arith) s) count (omega arith)

-- fewer assumptions, over a table with a higher top
pub held_fewer : {ws : List ℕ} {count top : ℕ} (n t : ℕ) → n ≤ count → top ≤ t → Listed ws count top → Listed ws n t
held_fewer n t h g l = record { few = omega (arith, l.few); held = λ k m. (omega (arith, (l.held k (omega arith)).0), omega (arith, (l.held k (omega arith)).1)) }

-- ---- one more
tag_bound : (kind : Comparison) → tag_of kind < 4
unfolding tag_of
tag_bound Equal = omega arith
tag_bound Unequal = omega arith
tag_bound Less = omega arith
tag_bound AtMost = omega arith

-- a tag says its comparison
kind_tag : (kind : Comparison) → kind_of (tag_of kind) ≡ kind
unfolding tag_of
kind_tag Equal = refl
kind_tag Unequal = refl
kind_tag Less = refl
kind_tag AtMost = refl

-- two bits always say one
pub two_bits : (bits : ℕ) → bits < 4 → found (get_elem? comparisons bits) misfit ≡ Ok (kind_of bits)
unfolding found
two_bits zero h = refl
two_bits (suc zero) h = refl
two_bits (suc (suc zero)) h = refl
two_bits (suc (suc (suc zero))) h = refl
two_bits (suc (suc (suc (suc t)))) h = absurd (omega arith)

unpacked_is : (kind : Comparison) (x y : ℕ) → x < most_table_nodes → unpacked (packed kind x y) ≡ record { kind = kind; left = x; right = y }
unpacked_is kind x y h =
    let t : packed kind x y % 4 ≡ tag_of kind = omega (arith, tag_bound kind) in
    let l : low (packed kind x y) / 4 ≡ x = omega (arith, tag_bound kind) in
    let r : high (packed kind x y) ≡ y = omega (arith, tag_bound kind) in
    rw (t, l, r, kind_tag kind)

module _ {ws : List ℕ} {count top : ℕ} (c : (count < most_assumptions) × (top ≤ most_table_nodes) × (least_workspace ≤ length ws)) (l : Listed ws count top) (kind : Comparison) {x y : ℕ} (b : (x < top) × (y < top)) where
  abbrev after : List ℕ
  after = set ws (slot count) (packed kind x y)

  entry_new : entry_of after count ≡ record { kind = kind; left = x; right = y }
  unfolding entry_of
  entry_new = rw (get_or-set_same ws (slot count) (packed kind x y) 0 (omega arith)) (unpacked_is kind x y (omega arith))

  pushed_set : Pushed ws after count top (atom_in ws (record { kind = kind; left = x; right = y }))
  unfolding listed
  pushed_set =
      let d : Same 0 (slot count) ws after = set_before ws (slot count) (packed kind x y) 0 (slot count) (omega arith) in
      let s : Same assumption_base (slot count) ws after = same_within assumption_base (slot count) (omega arith) (omega arith) d in
      let t : Same table_base (place top) ws after = set_after ws (slot count) (packed kind x y) table_base (place top) (omega arith) in
      record {
        below = d;
        above = set_after ws (slot count) (packed kind x y) (slot (suc count)) (length ws) (omega arith);
        held = record {
          few = omega arith;
          held = λ k m. ⊎_elim (λ e. subst (λ j. ((entry_of after j).left < top) × ((entry_of after j).right < top)) (sym e) (rw entry_new b)) (λ h. rw (entry_same count s k h) (l.held k h)) (eq-or-lt_of_le (le_of_suc-le-suc m));
        };
        is = rw (listed_same s l t count (omega arith), entry_new, term_same top t x b.0, term_same top t y b.1);
      }

  pub pushed : {us : List ℕ} {tag : ℕ} → tag ≡ tag_of kind → us ≡ set ws (slot count) (tag + 4 * x + 65536 * y) → Pushed ws us count top (atom_in ws (record { kind = kind; left = x; right = y }))
  pushed e q = subst (λ v. Pushed ws v count top (atom_in ws (record { kind = kind; left = x; right = y }))) (sym (rw (← e) q)) pushed_set

  -- the word fits
  pub packed_fits : {tag : ℕ} → tag ≡ tag_of kind → tag + 4 * x + 65536 * y < 2 ^ 32
  packed_fits e = omega (arith, tag_bound kind)

-- the table and its terms are kept
module _ {ws us : List ℕ} {count top : ℕ} {a : Atom} (c : count < most_assumptions) (f : Formed ws top) (p : Pushed ws us count top a) where
  pub pushed_table : Same table_base (place top) ws us
  pushed_table = same_within table_base (place top) (omega arith) (omega (arith, f.shaped.words, f.shaped.fits)) p.above

  pub pushed_formed : length us ≡ length ws → Formed us top
  pushed_formed e = formed_same top pushed_table e f

-- ---- the list by its indices
module _ {A : Type 0} where
  at_last : (l : List A) (a : A) → get_elem? (l ++ (a ∷ [])) (length l) ≡ some a
  at_last [] a = refl
  at_last (x ∷ l) a = at_last l a

  at_before : (l : List A) (a : A) (k : ℕ) → k < length l → get_elem? (l ++ (a ∷ [])) k ≡ get_elem? l k
  at_before [] a k h = absurd (omega arith)
  at_before (x ∷ l) a zero h = refl
  at_before (x ∷ l) a (suc k) h = at_before l a k (omega arith)

  at_past : (l : List A) (k : ℕ) → length l ≤ k → get_elem? l k ≡ none
  at_past [] k h = refl
  at_past (x ∷ l) zero h = absurd (omega arith)
  at_past (x ∷ l) (suc k) h = at_past l k (omega arith)

pub listed_length : (ws : List ℕ) (count : ℕ) → length (listed ws count) ≡ count
unfolding listed
listed_length ws zero = refl
listed_length ws (suc n) = length-append (listed ws n) _ ∙ rw (listed_length ws n) (add-one n)

listed_end : (ws : List ℕ) (n : ℕ) → get_elem? (listed ws (suc n)) n ≡ some (atom_in ws (entry_of ws n))
unfolding listed
listed_end ws n = subst (λ j. get_elem? (listed ws (suc n)) j ≡ some (atom_in ws (entry_of ws n))) (listed_length ws n) (at_last (listed ws n) _)

pub listed_at : (ws : List ℕ) (count k : ℕ) → k < count → get_elem? (listed ws count) k ≡ some (atom_in ws (entry_of ws k))
unfolding listed
listed_at ws zero k h = absurd (omega arith)
listed_at ws (suc n) k h =
    ⊎_elim
    (λ e. subst (λ j. get_elem? (listed ws (suc n)) j ≡ some (atom_in ws (entry_of ws j))) (sym e) (listed_end ws n))
    (λ l. at_before (listed ws n) _ k (rw listed_length l) ∙ listed_at ws n k l)
    (eq-or-lt_of_le (le_of_suc-le-suc h))

pub listed_past : (ws : List ℕ) (count k : ℕ) → count ≤ k → get_elem? (listed ws count) k ≡ none
listed_past ws count k h = at_past (listed ws count) k (rw listed_length h)
