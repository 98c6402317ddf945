-- A buffer that is filled by reads of its free part. Assumes nothing.
use Rattle.std.proofs.Common.{◌≡◌, ℕ, ◌+◌, ◌≤◌, List, ◌++◌, sym, ap, ◌∙◌, subst, length, take, drop, drop_at, length-take-le, le_refl}
use Rattle.std.proofs.Math.Seq.{take-add, take-append-le}
use Rattle.std.proofs.lemmas.Slice.{take-put_mid_below}
use Rattle.std.specs.Io.KnownBytes.{Consumes}
use Rattle.std.proofs.KnownBytes.{Consumes-trans}
use Rattle.std.specs.declared.option.Option.{Option}
use borrow.Rule.Slice.PartMut.{put_mid, post_of}

-- what stands at the front after a read of n bytes into the part that begins at a
front : (a k n : ℕ) (xs ys : List ℕ) → a ≤ length xs → n ≤ length ys → take (a + n) (put_mid a k xs ys) ≡ take a xs ++ take n ys
front a k n xs ys within fits =
    let rest = ys ++ post_of a k xs in
    take-add a n (put_mid a k xs ys)
    ∙ ap (λ l. l ++ take n (drop a (put_mid a k xs ys))) (take-put_mid_below a k xs ys a (le_refl _) within)
    ∙ ap (λ l. take a xs ++ take n l) (drop_at (take a xs) rest a (length-take-le a xs within))
    ∙ ap (λ l. take a xs ++ l) (take-append-le n ys (post_of a k xs) fits)

pub more : (first mid last : Option (List ℕ)) (a k n : ℕ) (xs ys : List ℕ) → a ≤ length xs → n ≤ length ys
    → Consumes first mid (take a xs) → Consumes mid last (take n ys) → Consumes first last (take (a + n) (put_mid a k xs ys))
more first mid last a k n xs ys within fits p q =
    subst (Consumes first last) (sym (front a k n xs ys within fits)) (Consumes-trans first mid last _ _ p q)
