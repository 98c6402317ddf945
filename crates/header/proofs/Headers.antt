-- The laws of the header, one for each way out of its reader, and of the finder. Assumes nothing.
use mathlib.Core.Path.{◌≡◌}
use mathlib.Core.Bool.{Bool, true, false, ◌&&◌}
use mathlib.Core.List.{List, []}
use native.Mathlib.Omega.{arith}
use Prim.Native.Nat.{ℕ, ◌+◌, ◌-◌, ◌*◌, ◌≤◌, ◌<◌, min}
use lib.ListN.{length, take, drop, length-drop}
use lib.Seq.{take_all}
use lib.Dec.{leb, eqb}
use borrow.Author.Tests.{le-leb, lt-leb}
use Rattle.model.specs.Result.{Err, Ok, check, ◌>>=◌}
use Rattle.model.specs.Word.{le16, le32}
use Rattle.model.specs.Package.{most_instructions, most_annotations, most_bytes, proof_start, read_header, proof_section}
use Rattle.model.specs.declared.Header.{Header}
use Rattle.model.specs.declared.Refusal.{Refusal}
use Rattle.model.specs.declared.Refusal.TheVariants.{BadHeader}

-- Laws are over the fields n, m, s, t that the code read.
module _ (bytes : List ℕ) where
  pub short : length bytes < 12 → Err (BadHeader (length bytes)) ≡ read_header bytes
  unfolding read_header ◌>>=◌ check
  short h = rw (lt-leb 12 (length bytes) h, read_header)

  module _ (l : 12 ≤ length bytes) (n : ℕ) (en : n ≡ le16 bytes 0) (within : Bool) (tests : within ≡ (leb 1 n && leb n most_instructions)) where
    pub miscounted : within ≡ false → Err (BadHeader 0) ≡ read_header bytes
    unfolding read_header ◌>>=◌ check
    miscounted c = rw (le-leb 12 (length bytes) l, ← en, ← tests, c, read_header)

    module _ (c : within ≡ true) (m : ℕ) (em : m ≡ le16 bytes 2) where
      pub overnoted : most_annotations < m → Err (BadHeader 2) ≡ read_header bytes
      unfolding read_header ◌>>=◌ check
      overnoted k = rw (le-leb 12 (length bytes) l, ← en, ← tests, c, ← em, lt-leb m most_annotations k, read_header)

      module _ (k : m ≤ most_annotations) (s t : ℕ) (es : s ≡ le32 bytes 4) (et : t ≡ le32 bytes 8) where
        pub wrong : (eqb (length bytes) (12 + 8 * n + s + t) && leb (length bytes) most_bytes) ≡ false → Err (BadHeader (min (length bytes) most_bytes)) ≡ read_header bytes
        unfolding read_header ◌>>=◌ check
        wrong x = rw (le-leb 12 (length bytes) l, ← en, ← tests, c, ← em, le-leb m most_annotations k, ← es, ← et, x, read_header)

        pub good : (eqb (length bytes) (12 + 8 * n + s + t) && leb (length bytes) most_bytes) ≡ true → Ok (record { instructions = n; annotations = m; section = s; proof = t }) ≡ read_header bytes
        unfolding read_header ◌>>=◌ check
        good x = rw (le-leb 12 (length bytes) l, ← en, ← tests, c, ← em, le-leb m most_annotations k, ← es, ← et, x, read_header)

-- the part of the bytes that the finder takes, and where it starts
pub proof_part : (bytes : List ℕ) {h : Header} → Ok h ≡ read_header bytes → (s : ℕ) → s ≡ proof_start h → (take (length bytes - s) (drop s bytes) ≡ (proof_section bytes).contents) × (s ≡ (proof_section bytes).start)
unfolding proof_section
proof_part bytes {h} e s es = (rw (es, ← e, proof_section) (take_all (length bytes - proof_start h) (drop (proof_start h) bytes) (rw length-drop (omega arith))), rw (← e, proof_section) es)

pub no_part : (bytes : List ℕ) {x : Refusal} → Err x ≡ read_header bytes → ([] ≡ (proof_section bytes).contents) × (0 ≡ (proof_section bytes).start)
unfolding proof_section
no_part bytes e = (rw (← e, proof_section), rw (← e, proof_section))
