-- A list that is filled with words from the front. Assumes nothing.
use Rattle.std.proofs.Common.{◌≡◌, ℕ, ◌+◌, ◌*◌, ◌<◌, List, [], ◌∷◌, ◌++◌, sym, ap, ◌∙◌, add-one, length, set, take}
use Rattle.std.proofs.lemmas.List.{take_more_set}
use Rattle.model.specs.Word.{le32}
use Rattle.console.specs.Words.{words_from}

-- the next word is written
pub more : (bytes out : List ℕ) (first i x : ℕ) → i < length out → take i out ≡ words_from bytes first i → x ≡ le32 bytes (4 * (first + i))
    → take (i + 1) (set out i x) ≡ words_from bytes first (i + 1)
unfolding words_from
more bytes out first i x h f e =
    take_more_set out i x h
    ∙ (λ j. f j ++ (e j ∷ []))
    ∙ ap (words_from bytes first) (sym (add-one i))
