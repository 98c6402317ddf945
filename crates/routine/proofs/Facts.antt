-- What holds of a code that passes checks 8 and 9, for callers. Assumes nothing.
use mathlib.Core.Path.{◌≡◌, refl, sym, ap, subst, ◌∙◌}
use mathlib.Core.List.{List, [], ◌∷◌}
use native.Mathlib.Omega.{arith}
use Prim.Native.Nat.{ℕ, zero, suc, ◌+◌, ◌*◌, ◌^◌, ◌<◌}
use lib.ListN.{length, get_or}
use Rattle.model.specs.Result.{Result, Err, Ok, check, map_err}
use Rattle.model.specs.Word.{le16, le32}
use Rattle.model.specs.Instruction.{decode, target_inside}
use Rattle.model.specs.Package.{immediate_start, instructions_from, read_code}
use Rattle.model.specs.declared.Header.{Header}
use Rattle.model.specs.declared.Instruction.{Instruction}
use Rattle.model.specs.declared.Refusal.{Refusal}
use Rattle.model.specs.declared.Refusal.TheVariants.{BadInstruction, BadTarget}
use Rattle.decoding.specs.Decoding.{Formed}
use Rattle.routine.specs.Code.{instruction_at, code_checked}
use Rattle.model.proofs.Results.{bound, past_check, past_stop}
use Rattle.decoding.proofs.Decoding.{formed}
use Rattle.routine.proofs.Codes.{step}

-- a code that was checked is there
pub checked_code : (m : Result (List Instruction) Refusal) → Ok tt ≡ code_checked m → (code : List Instruction) × (m ≡ Ok code)
unfolding code_checked
checked_code (Err x) e = let z : ◌≡◌ {A = ℕ} 0 1 = cc in absurd (omega arith)
checked_code (Ok code) e = (code, refl)

-- as many instructions as were asked for, each that of its index
record CodeStands (bytes : List ℕ) (h : Header) (count index : ℕ) (code : List Instruction) : Type 0 where
  long : length code ≡ count
  at : (k : ℕ) (other : Instruction) → k < count → instruction_at bytes h (index + k) ≡ Ok (get_or code k other)

module _ (bytes : List ℕ) (h : Header) where
  stands_from : (left index : ℕ) (code : List Instruction) → instructions_from bytes h left index ≡ Ok code → CodeStands bytes h left index code
  unfolding instructions_from
  stands_from zero index code e = let p : [] ≡ code = cc in subst (λ (l : List Instruction). CodeStands bytes h 0 index l) p (record { long = refl; at = λ k other l. absurd (omega arith) })
  stands_from (suc left) index code e =
      let b = bound (instruction_at bytes h index) _ (sym (step bytes h left index) ∙ e) in
      let c = bound (instructions_from bytes h left (index + 1)) _ b.2 in
      let p : b.0 ∷ c.0 ≡ code = cc in
      subst (λ (l : List Instruction). CodeStands bytes h (suc left) index l) p (longer b.0 c.0 b.1 (stands_from left (index + 1) c.0 c.1))
    where
      longer : (x : Instruction) (rest : List Instruction) → instruction_at bytes h index ≡ Ok x → CodeStands bytes h left (index + 1) rest → CodeStands bytes h (suc left) index (x ∷ rest)
      longer x rest one more = record { long = ap suc more.long; at = at_place }
        where
          at_place : (k : ℕ) (other : Instruction) → k < suc left → instruction_at bytes h (index + k) ≡ Ok (get_or (x ∷ rest) k other)
          at_place zero other l = let s : index + 0 ≡ index = omega arith in rw s one
          at_place (suc k) other l = let s : index + suc k ≡ index + 1 + k = omega arith in rw s (more.at k other (omega arith))

  -- the instructions of a code that was read
  module _ {code : List Instruction} (read : read_code bytes h ≡ Ok code) where
    pub code_length : length code ≡ h.instructions
    unfolding read_code
    code_length = (stands_from h.instructions 0 code read).long

    pub code_at : (index : ℕ) (other : Instruction) → index < h.instructions → instruction_at bytes h index ≡ Ok (get_or code index other)
    unfolding read_code
    code_at index other l = let s : 0 + index ≡ index = omega arith in rw s at ((stands_from h.instructions 0 code read).at index other l)

  -- an instruction that passes, in bytes
  pub formed_at : ((k : ℕ) → get_or bytes k 0 < 2 ^ 8) → (index : ℕ) (x : Instruction) → instruction_at bytes h index ≡ Ok x → Formed h.instructions x
  unfolding instruction_at le16 le32
  formed_at small index x e =
      let i = le32 bytes (immediate_start h + 4 * index) in
      let p = immediate_start h + 4 * index in
      let w : i < 2 ^ 32 = omega (arith, small p, small (p + 1), small (p + 2), small (p + 2 + 1)) in
      let b = bound (map_err (λ _. BadInstruction index) (decode (get_or bytes (12 + 4 * index) 0) (get_or bytes (12 + 4 * index + 1) 0) (get_or bytes (12 + 4 * index + 2) 0) (get_or bytes (12 + 4 * index + 3) 0) i)) _ e in
      let c = bound (check (target_inside h.instructions b.0) (BadTarget index)) _ b.2 in
      let same : b.0 ≡ x = cc in
      subst (λ (y : Instruction). Formed h.instructions y) same (formed _ _ _ _ _ w _ b.0 (past_stop _ _ b.1) (past_check _ _ c.1))
