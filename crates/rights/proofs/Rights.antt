-- Questions about some of the regions, and about all. Assumes nothing.
use mathlib.Core.Path.{◌≡◌, refl, sym, ap, ◌∙◌}
use mathlib.Core.Bool.{Bool, true, false, not, ◌&&◌, ◌||◌, and-false, or-false, or-true, and-true}
use Prim.Native.Nat.{ℕ, ◌+◌, ◌<◌, ◌≤◌}
use mathlib.Core.List.{List, [], ◌∷◌}
use native.Mathlib.Numerals.{add-one}
use lib.Dec.{ltb}
use lib.ListN.{length, get_or, drop, drop_of_length-le}
use lib.Seq.{drop-cons}
use Rattle.std.specs.List.{list_any, list_all}
use Rattle.model.specs.Policy.{covers, may_write, some_region, all_writable, writable_word}
use Rattle.model.specs.declared.Region.{Region}
use Rattle.rights.specs.Right.{writable_in}

-- whether any region covers the word and gives the right
pub any_region : (right : Region → Bool) (regions : List Region) (w : ℕ) → list_any (λ r. covers r w && right r) regions ≡ some_region right regions w
unfolding some_region
any_region right [] w = refl
any_region right (r ∷ rs) w = ap (λ b. (covers r w && right r) || b) (any_region right rs w)

-- whether all regions of a kind may be written
pub all_regions : (kind : Region → Bool) (regions : List Region) → list_all (λ r. not (kind r) || may_write r) regions ≡ all_writable kind regions
unfolding all_writable
all_regions kind [] = refl
all_regions kind (r ∷ rs) = ap (λ b. (not (kind r) || may_write r) && b) (all_regions kind rs)

-- ---- the search for what the regions over a word say of writing

-- some region gives the right, or one already has, and none lacks it
abbrev says : (w : ℕ) (given : Bool) → List Region → Bool
says w given regions = (given || some_region may_write regions w) && all_writable (λ r. covers r w) regions

-- k regions have been looked at, none of which lacks the right: what all say is what comes of those that are left
pub record Searched (regions : List Region) (w : ℕ) (given : Bool) (k : ℕ) : Type 0 where
  pub rest : says w false regions ≡ says w given (drop k regions)

pub unsearched : (regions : List Region) (w : ℕ) → Searched regions w false 0
unsearched regions w = record { rest = refl }

-- what it comes to
said : (regions : List Region) (w memory : ℕ) {given : Bool} → says w false regions ≡ given → (ltb w memory && given) ≡ writable_in memory regions w
unfolding writable_word
said regions w memory {given} e = go (ltb w memory) refl
  where
    go : (b : Bool) → ltb w memory ≡ b → (ltb w memory && given) ≡ writable_in memory regions w
    go true h = rw (h, ← e) refl
    go false h = rw h refl

module _ {regions : List Region} {w k : ℕ} {given : Bool} (s : Searched regions w given k) where
  pub searched : (memory : ℕ) → length regions ≤ k → (ltb w memory && given) ≡ writable_in memory regions w
  unfolding some_region all_writable
  searched memory h = said regions w memory (s.rest ∙ rw (drop_of_length-le regions {i = k} h) (and-true (given || false) ∙ or-false given))

  -- the regions that are left begin with the one at k
  module _ (other : Region) (h : k < length regions) where
    abbrev here : Region
    here = get_or regions k other

    left : says w false regions ≡ says w given (here ∷ drop (k + 1) regions)
    left = s.rest ∙ ap (says w given) (drop-cons regions k other h ∙ ap (λ n. here ∷ drop n regions) (sym (add-one k)))

    module _ (over : true ≡ covers here w) where
      pub protected : (memory : ℕ) → false ≡ may_write here → false ≡ writable_in memory regions w
      unfolding some_region all_writable
      protected memory lacks = sym (and-false (ltb w memory)) ∙ said regions w memory (left ∙ rw (← over, ← lacks) (and-false _))

      pub further : true ≡ may_write here → Searched regions w true (k + 1)
      unfolding some_region all_writable
      further gives = record { rest = left ∙ rw (← over, ← gives) (ap (λ b. b && all_writable (λ r. covers r w) (drop (k + 1) regions)) (or-true given)) }

    pub elsewhere : false ≡ covers here w → Searched regions w given (k + 1)
    unfolding some_region all_writable
    elsewhere beside = record { rest = left ∙ rw (← beside) refl }
