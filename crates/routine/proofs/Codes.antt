-- The laws of the readers of instructions, one for each way out. Assumes nothing.
use mathlib.Core.Path.{◌≡◌, refl, sym, ap, ◌∙◌}
use mathlib.Core.Bool.{true, false}
use mathlib.Core.List.{List, [], ◌∷◌, ◌++◌, append_assoc, append-nil}
use native.Mathlib.Omega.{arith}
use Prim.Native.Nat.{ℕ, suc, ◌+◌, ◌-◌, ◌*◌, ◌≤◌, ◌<◌}
use lib.ListN.{length, get_or, take, set, length-set}
use Rattle.std.specs.List.{All}
use Rattle.std.proofs.lemmas.List.{take_more_set}
use Rattle.std.proofs.lemmas.List.Elements.{All-nil, All-push}
use Rattle.model.specs.Result.{Result, Err, Ok, ◌>>=◌, check, map_err}
use Rattle.model.specs.Word.{le32}
use Rattle.model.specs.Instruction.{decode, target_inside}
use Rattle.model.specs.Package.{immediate_start, instructions_from, read_code}
use Rattle.model.specs.declared.Header.{Header}
use Rattle.model.specs.declared.Instruction.{Instruction}
use Rattle.model.specs.declared.Refusal.{Refusal}
use Rattle.model.specs.declared.Refusal.TheVariants.{BadInstruction, BadTarget}
use Rattle.decoding.specs.Decoding.{Formed}
use Rattle.routine.specs.Code.{instruction_at, code_checked}
use Rattle.model.proofs.Results.{then_then, then_same}

-- ---- one instruction
module _ (bytes : List ℕ) (h : Header) (index : ℕ) where
  -- its decoding, or check 8
  abbrev pub decoding : Result Instruction Refusal
  decoding = map_err (λ _. BadInstruction index) (decode (get_or bytes (12 + 4 * index) 0) (get_or bytes (12 + 4 * index + 1) 0) (get_or bytes (12 + 4 * index + 2) 0) (get_or bytes (12 + 4 * index + 3) 0) (le32 bytes (immediate_start h + 4 * index)))

  pub unknown : (x : Refusal) → Err x ≡ decoding → Err x ≡ instruction_at bytes h index
  unfolding instruction_at ◌>>=◌
  unknown x e = rw (← e, instruction_at)

  module _ (x : Instruction) (e : Ok x ≡ decoding) where
    pub outside : target_inside h.instructions x ≡ false → Err (BadTarget index) ≡ instruction_at bytes h index
    unfolding instruction_at ◌>>=◌ check
    outside t = rw (← e, t, instruction_at)

    pub inside : target_inside h.instructions x ≡ true → Ok x ≡ instruction_at bytes h index
    unfolding instruction_at ◌>>=◌ check
    inside t = rw (← e, t, instruction_at)

-- ---- the whole code

module _ (bytes : List ℕ) (h : Header) where
  -- the definition's step, by the instruction at the index
  pub step : (left index : ℕ) → instructions_from bytes h (suc left) index ≡ (instruction_at bytes h index >>= λ x. instructions_from bytes h left (index + 1) >>= λ rest. Ok (x ∷ rest))
  unfolding instructions_from instruction_at ◌>>=◌
  step left index =
      let rest : Instruction → Result (List Instruction) Refusal = λ x. instructions_from bytes h left (index + 1) >>= λ rest. Ok (x ∷ rest) in
      let m : Result Instruction Refusal = map_err (λ _. BadInstruction index) (decode (get_or bytes (12 + 4 * index) 0) (get_or bytes (12 + 4 * index + 1) 0) (get_or bytes (12 + 4 * index + 2) 0) (get_or bytes (12 + 4 * index + 3) 0) (le32 bytes (immediate_start h + 4 * index))) in
      sym (then_then m _ rest ∙ then_same m (λ x. then_then (check (target_inside h.instructions x) (BadTarget index)) (λ _. Ok x) rest))

  -- with so many instructions left, the next is x, or the refusal e ends all
  one_more : (index : ℕ) (x : Instruction) → index < h.instructions → Ok x ≡ instruction_at bytes h index → instructions_from bytes h (h.instructions - index) index ≡ (instructions_from bytes h (h.instructions - (index + 1)) (index + 1) >>= λ rest. Ok (x ∷ rest))
  unfolding ◌>>=◌
  one_more index x l e =
      let s : h.instructions - index ≡ suc (h.instructions - (index + 1)) = omega arith in
      ap (λ (k : ℕ). instructions_from bytes h k index) s ∙ step (h.instructions - (index + 1)) index ∙ rw (← e)

  ends : (index : ℕ) (x : Refusal) → index < h.instructions → Err x ≡ instruction_at bytes h index → instructions_from bytes h (h.instructions - index) index ≡ Err x
  unfolding ◌>>=◌
  ends index x l e =
      let s : h.instructions - index ≡ suc (h.instructions - (index + 1)) = omega arith in
      ap (λ (k : ℕ). instructions_from bytes h k index) s ∙ step (h.instructions - (index + 1)) index ∙ rw (← e)

  none_left : (index : ℕ) → h.instructions ≤ index → instructions_from bytes h (h.instructions - index) index ≡ Ok []
  unfolding instructions_from
  none_left index l = let s : h.instructions - index ≡ 0 = omega arith in ap (λ (k : ℕ). instructions_from bytes h k index) s

  all_left : read_code bytes h ≡ instructions_from bytes h (h.instructions - 0) 0
  unfolding read_code
  all_left = let s : h.instructions ≡ h.instructions - 0 = omega arith in ap (λ (k : ℕ). instructions_from bytes h k 0) s

  -- ---- the checks alone: those of the first instructions passed
  pub record Checking (index : ℕ) : Type 0 where
    pub rest : code_checked (read_code bytes h) ≡ code_checked (instructions_from bytes h (h.instructions - index) index)

  pub check_start : Checking 0
  check_start = record { rest = ap code_checked all_left }

  -- what is read before does not matter to the checks
  checked_after : (x : Instruction) (m : Result (List Instruction) Refusal) → code_checked (m >>= λ rest. Ok (x ∷ rest)) ≡ code_checked m
  unfolding code_checked ◌>>=◌
  checked_after x (Err e) = refl
  checked_after x (Ok rest) = refl

  module _ (index : ℕ) (g : Checking index) (l : index < h.instructions) where
    pub check_more : (x : Instruction) → Ok x ≡ instruction_at bytes h index → Checking (index + 1)
    check_more x e = record { rest = g.rest ∙ ap code_checked (one_more index x l e) ∙ checked_after x _ }

    pub check_refused : (x : Refusal) → Err x ≡ instruction_at bytes h index → Err x ≡ code_checked (read_code bytes h)
    unfolding code_checked
    check_refused x e = sym (g.rest ∙ ap code_checked (ends index x l e))

  pub check_done : (index : ℕ) → Checking index → h.instructions ≤ index → Ok tt ≡ code_checked (read_code bytes h)
  unfolding code_checked
  check_done index g l = sym (g.rest ∙ ap code_checked (none_left index l))

  -- ---- the code kept in lines: the first instructions stand there
  pub record Reading (lines : List Instruction) (index : ℕ) : Type 0 where
    pub room : h.instructions ≤ length lines
    pub rest : read_code bytes h ≡ (instructions_from bytes h (h.instructions - index) index >>= λ rest. Ok (take index lines ++ rest))
    pub formed : All (Formed h.instructions) (take index lines)

  value_again : {A : Type 0} (m : Result A Refusal) → m ≡ (m >>= λ a. Ok a)
  unfolding ◌>>=◌
  value_again (Err e) = refl
  value_again (Ok a) = refl

  pub read_start_lem : (lines : List Instruction) → h.instructions ≤ length lines → Reading lines 0
  read_start_lem lines r = record { room = r; rest = all_left ∙ value_again _; formed = All-nil _ }

  -- the instruction x goes after those read
  joined : (m : Result (List Instruction) Refusal) (before : List Instruction) (x : Instruction) → ((m >>= λ rest. Ok (x ∷ rest)) >>= λ rest. Ok (before ++ rest)) ≡ (m >>= λ rest. Ok ((before ++ (x ∷ [])) ++ rest))
  unfolding ◌>>=◌
  joined (Err e) before x = refl
  joined (Ok rest) before x = ap Ok (sym (append_assoc before (x ∷ []) rest))

  module _ (lines : List Instruction) (index : ℕ) (g : Reading lines index) (l : index < h.instructions) where
    pub read_more : (x : Instruction) → Ok x ≡ instruction_at bytes h index → Formed h.instructions x → Reading (set lines index x) (index + 1)
    read_more x e f =
        let before = take index lines in
        let t : take (index + 1) (set lines index x) ≡ before ++ (x ∷ []) = take_more_set lines index x (omega (arith, g.room)) in
        record {
          room = rw (length-set lines index x) g.room;
          rest = rw t (g.rest ∙ ap (λ (m : Result (List Instruction) Refusal). m >>= λ rest. Ok (before ++ rest)) (one_more index x l e) ∙ joined _ before x);
          formed = rw t (All-push (Formed h.instructions) before x g.formed f);
        }

    pub read_refused : (x : Refusal) → Err x ≡ instruction_at bytes h index → Err x ≡ read_code bytes h
    unfolding ◌>>=◌
    read_refused x e = sym (g.rest ∙ rw (ends index x l e))

  pub read_done : (lines : List Instruction) (index : ℕ) → Reading lines index → h.instructions ≡ index → Ok (take h.instructions lines) ≡ read_code bytes h
  unfolding ◌>>=◌
  read_done lines index g same = sym (g.rest ∙ rw (none_left index (omega arith), append-nil, same))
