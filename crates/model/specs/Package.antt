-- The package: its header with check 7, its proof section, its instructions with checks 8 and 9. Assumes nothing.
use Rattle.std.specs.Prelude.{ℕ, zero, suc, ◌+◌, ◌*◌, min, ◌&&◌, List, [], ◌∷◌, length, get_or, drop, leb, eqb}
use Rattle.model.specs.Result.{Result, Err, Ok, ◌>>=◌, check, map_err}
use Rattle.model.specs.Refusal.{number_of, place_of}
use Rattle.model.specs.Word.{le16, le32}
use Rattle.model.specs.Instruction.{decode, target_inside}
use Rattle.model.specs.declared.Instruction.{Instruction}
use Rattle.model.specs.declared.Header.{Header}
use Rattle.model.specs.declared.Finding.{Finding}
use Rattle.model.specs.declared.Refusal.{Refusal}
use Rattle.model.specs.declared.Refusal.TheVariants.{BadHeader, BadInstruction, BadTarget}

-- "Then two parallel arrays, n operation words and n immediates, the annotations, the proof."
abbrev pub immediate_start : Header → ℕ
immediate_start h = 12 + 4 * h.instructions

abbrev pub annotation_start : Header → ℕ
annotation_start h = 12 + 8 * h.instructions

abbrev pub proof_start : Header → ℕ
proof_start h = annotation_start h + h.section

-- "Its length is exactly that sum, taken over whole numbers"
abbrev pub package_length : Header → ℕ
package_length h = proof_start h + h.proof

-- S-4: "Raise n to 512"; "0 to 64", "and at most 65,536"
abbrev pub most_instructions : ℕ
most_instructions = 512

abbrev pub most_annotations : ℕ
most_annotations = 64

abbrev pub most_bytes : ℕ
most_bytes = 65536

module _ (bytes : List ℕ) where
  -- "instruction count n (2 bytes, 1 to [512]), annotation count (2 bytes, 0 to 64), annotation section length (4), proof length (4)";
  -- "7: header under 12 bytes (the length), else a count out of range, n first (its first byte),
  -- else length wrong (the length; 65,536 if longer)"
  unfoldable pub read_header : Result Header Refusal
  read_header = do
    _ ← check (leb 12 (length bytes)) (BadHeader (length bytes))
    let h : Header = record { instructions = le16 bytes 0; annotations = le16 bytes 2; section = le32 bytes 4; proof = le32 bytes 8 }
    _ ← check (leb 1 h.instructions && leb h.instructions most_instructions) (BadHeader 0)
    _ ← check (leb h.annotations most_annotations) (BadHeader 2)
    _ ← check (eqb (length bytes) (package_length h) && leb (length bytes) most_bytes) (BadHeader (min (length bytes) most_bytes))
    Ok h

  -- "8: unknown op, register above 15, unused field not zero; 9: target n or more; instruction by instruction, 8 first (the index)":
  -- the instructions from an index on, so many
  unfoldable pub instructions_from : Header → (left index : ℕ) → Result (List Instruction) Refusal
  instructions_from h zero index = Ok []
  instructions_from h (suc left) index = do
    let p = 12 + 4 * index
    let i = le32 bytes (immediate_start h + 4 * index)
    instruction ← map_err (λ _. BadInstruction index) (decode (get_or bytes p 0) (get_or bytes (p + 1) 0) (get_or bytes (p + 2) 0) (get_or bytes (p + 3) 0) i)
    _ ← check (target_inside h.instructions instruction) (BadTarget index)
    rest ← instructions_from h left (index + 1)
    Ok (instruction ∷ rest)

  unfoldable pub read_code : Header → Result (List Instruction) Refusal
  read_code h = instructions_from h h.instructions 0

  -- the instructions of a package that passes checks 7, 8 and 9
  unfoldable pub code_of : Result (List Instruction) Refusal
  code_of = do
    h ← read_header
    read_code h

-- ---- the finder

-- a part of the caller's bytes
pub record Part : Type 0 where
  pub start : ℕ
  pub contents : List ℕ

-- "takes a package that passes check 7 and hands back the proof section ..; otherwise an empty part"
unfoldable pub proof_section : List ℕ → Part
proof_section bytes =
    elim (read_header bytes) [
      | Err r ↦ record { start = 0; contents = [] }
      | Ok h ↦ record { start = proof_start h; contents = drop (proof_start h) bytes }
    ]

-- "a companion answer gives 7 and its place (0 and 0 where check 7 passes)"
unfoldable pub finder_answer : List ℕ → Finding
finder_answer bytes =
    elim (read_header bytes) [
      | Err r ↦ record { number = number_of r; place = place_of r }
      | Ok h ↦ record { number = 0; place = 0 }
    ]
