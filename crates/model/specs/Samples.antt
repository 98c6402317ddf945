-- The commissioning samples of document 01 that are marked (P), as one list, and samples of document 02, in further lists, that the definitions
-- evaluate (proofs/Samples). Assumes nothing.
use Rattle.std.specs.Prelude.{ℕ, ◌+◌, ◌/◌, ◌%◌, ◌^◌, Bool, true, ◌&&◌, List, [], ◌∷◌, ◌++◌, length, replicate, eqb}
use Rattle.model.specs.Result.{◌>>=◌, check, found, map_err}
use Rattle.model.specs.Refusal.{number_of, place_of}
use Rattle.model.specs.Word.{add_w, sub_w, mask_w, shift_w, le16, le32}
use Rattle.model.specs.Term.{eval, size, closed, eq_term, substitute}
use Rattle.model.specs.Atom.{compares, holds, tag_of, eq_atom, substitute_atom}
use Rattle.model.specs.Field.{byte_at, half_at, word_at}
use Rattle.model.specs.Expression.{node_of, nodes_at, expression_at, atom_at, atoms_at}
use Rattle.model.specs.Policy.{some_region, all_writable, readable_word, writable_word, writable_region, region_fits, policy_refusal, sizes_of, region_at, regions_from, read_policy}
use Rattle.model.specs.Instruction.{provided, decode, target_of, target_inside}
use Rattle.model.specs.Package.{read_header, instructions_from, read_code, code_of}
use Rattle.model.specs.Annotation.{annotation_at, annotation_refusal, annotation_from, annotations_from, read_annotations}
use Rattle.model.specs.Routine.{annotated, target_allowed, targets_allowed, read_routine}
use Rattle.model.specs.Machine.{execute, step}
use Rattle.model.specs.Goals.{goals, append, arrival, returning, small_enough, assign, branch, move, follow, tracing, evaluating, walk, entry_block, annotation_block, annotation_blocks, trace_of}
use Rattle.model.specs.Linear.{constant_of, coefficient_of, variable_bound, variables_below, opaque_terms, indeterminates, same_coefficients, only_if, form_difference}
use Rattle.model.specs.Rule.{atom_of, sides_of, readable_of, writable_of, pair_of, sum_of, difference_of, mask_of, shift_of, equal_pairs, congruent, region_premises, premises}
use Rattle.model.specs.Derivation.{proof_refusal, rule_at, derive_all, derive}
use Rattle.model.specs.Verdict.{answered, judge, read_inputs, check_of}
use Rattle.model.specs.Runner.{run_from, read_start, run_of}

-- what is handed to the checker, with the least workspace, or to the runner
pub data Input : Type 0 where
  to_checker : (policy_bytes package_bytes : List ℕ) → Input
  to_runner : (policy_bytes package_bytes registers memory : List ℕ) (budget : ℕ) → Input

-- number, place, and goals derived or steps run
abbrev pub Answer : Type 0
Answer = ℕ × ℕ × ℕ

unfoldable pub answer_of : Input → Answer
unfolding ◌>>=◌ check found map_err number_of place_of add_w sub_w mask_w shift_w le16 le32 eval size closed eq_term substitute compares holds tag_of eq_atom substitute_atom byte_at half_at word_at node_of nodes_at expression_at atom_at atoms_at some_region all_writable readable_word writable_word writable_region region_fits policy_refusal sizes_of region_at regions_from read_policy provided decode target_of target_inside read_header instructions_from read_code code_of annotation_at annotation_refusal annotation_from annotations_from read_annotations annotated target_allowed targets_allowed read_routine execute step goals append arrival returning small_enough assign branch move follow tracing evaluating walk entry_block annotation_block annotation_blocks trace_of constant_of coefficient_of variable_bound variables_below opaque_terms indeterminates same_coefficients only_if form_difference atom_of sides_of readable_of writable_of pair_of sum_of difference_of mask_of shift_of equal_pairs congruent region_premises premises proof_refusal rule_at derive_all derive answered judge read_inputs check_of run_from read_start run_of
answer_of (to_checker policy_bytes package_bytes) =
    let v = check_of 16384 policy_bytes package_bytes in
    (v.number, v.place, v.goals)
answer_of (to_runner policy_bytes package_bytes registers memory budget) =
    let r = run_of policy_bytes package_bytes registers memory budget in
    (r.outcome.number, r.outcome.place, r.outcome.steps)

-- a sample: an input, and the answer that document 01 gives for it
pub record Sample : Type 0 where
  pub input : Input
  pub answer : Answer

abbrev pub sample : Input → (number place count : ℕ) → Sample
sample input number place count = record { input = input; answer = (number, place, count) }

unfoldable pub right : Sample → Bool
unfolding answer_of
right s =
    let a = answer_of s.input in
    eqb a.0 s.answer.0 && eqb a.1 s.answer.1 && eqb a.2 s.answer.2

unfoldable pub all_right : List Sample → Bool
unfolding right
all_right [] = true
all_right (s ∷ rest) = right s && all_right rest

-- ---- the bytes

-- the policy of S with step limit N
abbrev pub policy_s : (N : ℕ) → List ℕ
policy_s N = 0x01 ∷ 0x00 ∷ 0x00 ∷ 0x00 ∷ 0x01 ∷ 0x00 ∷ 0x00 ∷ 0x00 ∷ N ∷ 0x00 ∷ 0x00 ∷ 0x00 ∷ 0x00 ∷ 0x00 ∷ 0x00 ∷ 0x00 ∷ 0x07 ∷ 0x00 ∷ 0x00 ∷ 0x00 ∷ []

-- the package of S with instruction count n and a proof of so many bytes
abbrev pub package_s : (n proof_bytes : ℕ) → (proof : List ℕ) → List ℕ
package_s n proof_bytes proof =
    (n ∷ 0x00 ∷ 0x00 ∷ 0x00 ∷ 0x00 ∷ 0x00 ∷ 0x00 ∷ 0x00 ∷ proof_bytes ∷ 0x00 ∷ 0x00 ∷ 0x00 ∷ 0x09 ∷ 0x00 ∷ 0x00 ∷ 0x00 ∷ 0x00 ∷ 0x00 ∷ 0x00 ∷ 0x00 ∷ []) ++ proof

-- one jump to 0, annotated there with credit constant 5, and a proof of four bytes 03
abbrev pub package_jump : List ℕ
package_jump =
    0x01 ∷ 0x00 ∷ 0x01 ∷ 0x00 ∷ 0x08 ∷ 0x00 ∷ 0x00 ∷ 0x00 ∷ 0x04 ∷ 0x00 ∷ 0x00 ∷ 0x00
    ∷ 0x06 ∷ 0x00 ∷ 0x00 ∷ 0x00 ∷ 0x00 ∷ 0x00 ∷ 0x00 ∷ 0x00
    ∷ 0x00 ∷ 0x00 ∷ 0x00 ∷ 0x00 ∷ 0x05 ∷ 0x00 ∷ 0x00 ∷ 0x00
    ∷ 0x03 ∷ 0x03 ∷ 0x03 ∷ 0x03 ∷ []

-- the operation word of 1 := 1 + 1
abbrev pub double : List ℕ
double = 0x01 ∷ 0x01 ∷ 0x01 ∷ 0x01 ∷ []

-- eight times 1 := 1 + 1, and no proof
abbrev pub package_eight : List ℕ
package_eight =
    (0x08 ∷ 0x00 ∷ 0x00 ∷ 0x00 ∷ 0x00 ∷ 0x00 ∷ 0x00 ∷ 0x00 ∷ 0x00 ∷ 0x00 ∷ 0x00 ∷ 0x00 ∷ [])
    ++ (double ++ double ++ double ++ double ++ double ++ double ++ double ++ double ++ replicate 32 0x00)

-- seven times 1 := 1 + 1, a return, and the proof 02
abbrev pub package_seven : List ℕ
package_seven =
    (0x08 ∷ 0x00 ∷ 0x00 ∷ 0x00 ∷ 0x00 ∷ 0x00 ∷ 0x00 ∷ 0x00 ∷ 0x01 ∷ 0x00 ∷ 0x00 ∷ 0x00 ∷ [])
    ++ (double ++ double ++ double ++ double ++ double ++ double ++ double)
    ++ (0x09 ∷ 0x00 ∷ 0x00 ∷ 0x00 ∷ [])
    ++ replicate 32 0x00
    ++ (0x02 ∷ [])

-- ---- the list

abbrev pub samples : List Sample
samples =
    sample (to_checker (policy_s 1) (package_s 1 1 (0x02 ∷ []))) 0 0 1
    ∷ sample (to_checker (policy_s 0) (package_s 1 1 (0x02 ∷ []))) 16 20 0
    ∷ sample (to_checker (policy_s 2) (package_s 1 1 (0x02 ∷ []))) 16 20 0
    ∷ sample (to_checker (policy_s 2) (package_s 1 1 (0x03 ∷ []))) 0 0 1
    ∷ sample (to_checker (policy_s 1) (package_s 1 0 [])) 15 20 0
    ∷ sample (to_checker (policy_s 1) (package_s 1 2 (0x02 ∷ 0x02 ∷ []))) 19 21 1
    ∷ sample (to_checker (policy_s 5) package_jump) 16 31 3
    ∷ sample (to_runner (policy_s 1) (package_s 1 1 (0x02 ∷ [])) (replicate 16 0) (0 ∷ []) 0) 20 0 0
    ∷ sample (to_runner (policy_s 1) (package_s 1 1 (0x02 ∷ [])) (replicate 16 0) (0 ∷ []) 1) 0 0 1
    ∷ sample (to_checker (policy_s 1) (package_s 0 1 (0x02 ∷ []))) 7 0 0
    ∷ sample (to_checker (policy_s 8) package_seven) 0 0 1
    ∷ sample (to_checker (policy_s 8) package_eight) 14 7 0
    ∷ []

-- ---- samples of document 02

-- a field of two bytes, and of four
abbrev pub half : ℕ → List ℕ
half x = x % 2 ^ 8 ∷ x / 2 ^ 8 % 2 ^ 8 ∷ []

abbrev pub whole : ℕ → List ℕ
whole x = half (x % 2 ^ 16) ++ half (x / 2 ^ 16)

-- an instruction: its operation word and its immediate
pub record Coded : Type 0 where
  pub operation : List ℕ
  pub immediate : List ℕ

abbrev pub coded : (op d a b i : ℕ) → Coded
coded op d a b i = record { operation = op ∷ d ∷ a ∷ b ∷ []; immediate = whole i }

unfoldable pub operation_bytes : List Coded → List ℕ
operation_bytes [] = []
operation_bytes (c ∷ rest) = c.operation ++ operation_bytes rest

unfoldable pub immediate_bytes : List Coded → List ℕ
immediate_bytes [] = []
immediate_bytes (c ∷ rest) = c.immediate ++ immediate_bytes rest

-- a package: code, so many annotations and their section, proof
unfoldable pub packaged : List Coded → (annotations : ℕ) → (section proof : List ℕ) → List ℕ
unfolding operation_bytes immediate_bytes
packaged code annotations section proof =
    half (length code) ++ half annotations ++ whole (length section) ++ whole (length proof)
    ++ operation_bytes code ++ immediate_bytes code ++ section ++ proof

-- a policy with M = 1, one region over that word with both rights, a limit, and so many atoms of precondition and postcondition
abbrev pub policed : (limit pre post : ℕ) → (atoms : List ℕ) → List ℕ
policed limit pre post atoms = 0x01 ∷ pre ∷ post ∷ 0x00 ∷ whole 1 ++ whole limit ++ whole 0 ++ whole 7 ++ atoms

-- one operation of register 1 upon itself, with the immediate i, and a return
abbrev pub package_one : (op i : ℕ) → (proof : List ℕ) → List ℕ
package_one op i proof = packaged (coded op 1 1 0 i ∷ coded 9 0 0 0 0 ∷ []) 0 [] proof

-- expressions: a constant, a variable of one byte, variable 1 masked with a constant
abbrev pub constant_e : (c : ℕ) → List ℕ
constant_e c = 0x00 ∷ whole c

abbrev pub variable_e : (v : ℕ) → List ℕ
variable_e v = 0x01 ∷ v ∷ 0x00 ∷ []

abbrev pub mask_e : (c : ℕ) → List ℕ
mask_e c = 0x04 ∷ variable_e 1 ++ constant_e c

-- register 1 at most 255
abbrev pub at_most255 : List ℕ
at_most255 = 0x03 ∷ variable_e 1 ++ constant_e 0xff

-- 1 := 1 masked with 4080; 1 := 1 shifted right by 4; jump to 4 if 1 = 2; 1 := Mem[0 + 1]; return
abbrev pub package_test : List ℕ
package_test =
    packaged (coded 10 1 1 0 4080 ∷ coded 11 1 1 0 4 ∷ coded 8 0 1 2 4 ∷ coded 4 1 0 0 1 ∷ coded 9 0 0 0 0 ∷ []) 0 [] []

-- seven times 1 := 1 + 1, then 1 := 1 shifted right by 0: 256 nodes
abbrev pub package_shifted : List ℕ
package_shifted = packaged (replicate 7 (coded 1 1 1 1 0) ++ coded 11 1 1 0 0 ∷ []) 0 [] []

-- a policy whose postcondition is one atom, of a kind and two expressions
abbrev pub of_two : (kind : ℕ) → (left right : List ℕ) → List ℕ
of_two kind left right = policed 1 0 1 (kind ∷ left ++ right)

-- a return, whose one atom is derived by a rule that has neither argument nor premises
abbrev pub by_rule : (rule : ℕ) → List ℕ
by_rule rule = package_s 1 2 (rule ∷ 0x02 ∷ [])

-- S-1: operations 10 and 11, tags 4 and 5, rules 3, 12, 25, 26 and 27
abbrev pub mask_samples : List Sample
mask_samples =
    sample (to_checker (policed 2 0 1 at_most255) (package_one 0x0a 0xff (0x19 ∷ 0x02 ∷ []))) 0 0 2
    ∷ sample (to_checker (policed 2 0 1 at_most255) (package_one 0x0a 0xfe (0x19 ∷ 0x02 ∷ []))) 16 28 0
    ∷ sample (to_checker (policed 2 0 1 at_most255) (package_one 0x0b 24 (0x1b ∷ 0x02 ∷ []))) 0 0 2
    ∷ sample (to_checker (policed 2 0 1 at_most255) (package_one 0x0b 23 (0x1b ∷ 0x02 ∷ []))) 16 28 0
    ∷ sample (to_checker (policed 2 0 1 at_most255) (package_one 0x0b 24 (0x1a ∷ 0x02 ∷ []))) 16 28 0
    ∷ sample (to_checker (policed 2 0 1 at_most255) (package_one 0x0b 32 (0x1b ∷ 0x02 ∷ []))) 8 0 0
    -- 61680 masked with 4080, shifted by 4, is 15: by rule 3
    ∷ sample (to_checker (of_two 0 (0x05 ∷ 0x04 ∷ 0x04 ∷ constant_e 61680 ++ constant_e 4080) (constant_e 15)) (by_rule 3)) 0 0 2
    -- a count byte of 32, and one that is not there
    ∷ sample (to_checker (policed 1 0 1 (0x00 ∷ 0x05 ∷ 0x20 ∷ [])) (package_s 1 1 (0x02 ∷ []))) 6 22 0
    ∷ sample (to_checker (policed 1 0 1 (0x00 ∷ 0x05 ∷ [])) (package_s 1 1 (0x02 ∷ []))) 3 22 0
    -- a masked term is one more variable of rule 12, another masked term is another, and one of constants is one too
    ∷ sample (to_checker (of_two 0 (0x03 ∷ 0x02 ∷ mask_e 255 ++ variable_e 2 ++ variable_e 2) (mask_e 255)) (by_rule 12)) 0 0 2
    ∷ sample (to_checker (of_two 0 (mask_e 255) (mask_e 254)) (by_rule 12)) 16 20 0
    ∷ sample (to_checker (of_two 0 (0x05 ∷ 0x01 ∷ constant_e 2) (constant_e 1)) (by_rule 12)) 16 20 0
    ∷ sample (to_checker (policy_s 8) package_shifted) 14 7 0
    ∷ sample (to_runner (policy_s 1) package_test (0 ∷ 61680 ∷ 15 ∷ replicate 13 0) (0 ∷ []) 9) 0 4 4
    ∷ sample (to_runner (policy_s 1) package_test (0 ∷ 61680 ∷ 14 ∷ replicate 13 0) (0 ∷ []) 9) 21 3 3
    ∷ []

-- a policy of three words with two regions, region 0 from word 0 on, step limit 3, by the region's extents and the second base
abbrev pub policy_two : (extent base extent' : ℕ) → List ℕ
policy_two extent base extent' = 0x02 ∷ 0x00 ∷ 0x00 ∷ 0x00 ∷ whole 3 ++ whole 3 ++ whole 0 ++ whole base ++ whole extent ++ whole extent'

-- 1 := 0; an access to Mem[1 + i]; return; the access's goal by its rule and region 0
abbrev pub package_access : (operation rule i : ℕ) → List ℕ
package_access operation rule i = packaged (coded 0 1 0 0 0 ∷ coded operation 0 1 0 i ∷ coded 9 0 0 0 0 ∷ []) 0 [] (rule ∷ 0x00 ∷ 0x03 ∷ 0x03 ∷ 0x02 ∷ [])

abbrev pub package_load : (i : ℕ) → List ℕ
package_load = package_access 4 0x16

abbrev pub package_store : (i : ℕ) → List ℕ
package_store = package_access 5 0x17

abbrev pub run_two : (extent' : ℕ) → List ℕ → Input
run_two extent' bytes = to_runner (policy_two 0x0b 1 extent') bytes (replicate 16 0) (0 ∷ 0 ∷ 0 ∷ []) 9

-- S-2: region 0 gives both rights to words 0 and 1
abbrev pub table_samples : List Sample
table_samples =
    -- a read-only region over word 1: no store by region 0, not even to word 0, though the machine lets that through
    sample (to_checker (policy_two 0x0b 1 0x05) (package_store 0)) 16 36 0
    ∷ sample (run_two 0x05 (package_store 0)) 0 2 3
    ∷ sample (run_two 0x05 (package_store 1)) 21 1 1
    ∷ sample (run_two 0x05 (package_load 1)) 0 2 3
    -- the same beside region 0; a region to read and write over word 1
    ∷ sample (to_checker (policy_two 0x0b 2 0x05) (package_store 1)) 0 0 2
    ∷ sample (to_checker (policy_two 0x0b 1 0x07) (package_store 1)) 0 0 2
    -- a region to write only over word 1 protects neither from stores nor from loads
    ∷ sample (to_checker (policy_two 0x0b 1 0x06) (package_store 1)) 0 0 2
    ∷ sample (to_checker (policy_two 0x0b 1 0x06) (package_load 1)) 0 0 2
    -- a word that no region lies over
    ∷ sample (run_two 0x05 (package_store 2)) 21 1 1
    ∷ []

-- an expression and a constant past it
abbrev pub past_e : List ℕ → (c : ℕ) → List ℕ
past_e e c = 0x02 ∷ e ++ constant_e c

-- S-3: rules 12 and 28
abbrev pub difference_samples : List Sample
difference_samples =
    -- 12 and 8 past a base, past a masked term, past nothing
    sample (to_checker (of_two 1 (past_e (variable_e 1) 12) (past_e (variable_e 1) 8)) (by_rule 28)) 0 0 2
    ∷ sample (to_checker (of_two 1 (past_e (mask_e 255) 12) (mask_e 255)) (by_rule 28)) 0 0 2
    ∷ sample (to_checker (of_two 1 (constant_e 12) (constant_e 8)) (by_rule 28)) 0 0 2
    -- difference zero, also after a wrap; another base, another masked term
    ∷ sample (to_checker (of_two 1 (past_e (variable_e 1) 12) (past_e (variable_e 1) 12)) (by_rule 28)) 16 20 0
    ∷ sample (to_checker (of_two 1 (0x03 ∷ variable_e 1 ++ constant_e 4294967295) (past_e (variable_e 1) 1)) (by_rule 28)) 16 20 0
    ∷ sample (to_checker (of_two 1 (past_e (variable_e 1) 12) (past_e (variable_e 2) 8)) (by_rule 28)) 16 20 0
    ∷ sample (to_checker (of_two 1 (past_e (mask_e 255) 12) (past_e (mask_e 254) 8)) (by_rule 28)) 16 20 0
    -- rule 28 gives no equality; rule 12 at a difference, and where 8 - 12 is 4294967292
    ∷ sample (to_checker (of_two 0 (past_e (variable_e 1) 12) (past_e (variable_e 1) 8)) (by_rule 28)) 16 20 0
    ∷ sample (to_checker (of_two 0 (past_e (variable_e 1) 12) (past_e (variable_e 1) 8)) (by_rule 12)) 16 20 0
    ∷ sample (to_checker (of_two 0 (past_e (variable_e 1) 4294967292) (0x03 ∷ past_e (variable_e 1) 8 ++ constant_e 12)) (by_rule 12)) 0 0 2
    ∷ []

-- a header that says n instructions, and nothing after it
abbrev pub header_only : (n : ℕ) → List ℕ
header_only n = half n ++ replicate 10 0x00

-- S-4: 257 and 512 instructions are in range, and too many for these twelve bytes; 513 and 0 are out of range
abbrev pub length_samples : List Sample
length_samples =
    sample (to_checker (policy_s 1) (header_only 257)) 7 12 0
    ∷ sample (to_checker (policy_s 1) (header_only 512)) 7 12 0
    ∷ sample (to_checker (policy_s 1) (header_only 513)) 7 0 0
    ∷ sample (to_checker (policy_s 1) (header_only 0)) 7 0 0
    ∷ []

-- a branch that assumes what always holds, on either edge on to an index
abbrev pub branch_c : (target : ℕ) → Coded
branch_c = coded 8 0 0 1

-- 0 := 0, and a return
abbrev pub zero_c : Coded
zero_c = coded 0 0 0 0 0

abbrev pub return_c : Coded
return_c = coded 9 0 0 0 0

abbrev pub jump_c : (target : ℕ) → Coded
jump_c = coded 6 0 0 0

-- Five branches, each to the next instruction, then so many times 0 := 0 and a return, at an index: on 32 paths what follows the branches is evaluated,
-- 31 + 32 * (times + 1) instructions in all.
abbrev pub paths_32 : (index times : ℕ) → List Coded
paths_32 index times =
    branch_c (index + 1) ∷ branch_c (index + 2) ∷ branch_c (index + 3) ∷ branch_c (index + 4) ∷ branch_c (index + 5) ∷ replicate times zero_c ++ return_c ∷ []

-- so many times 0 := 0 before them
abbrev pub many_paths : (first : ℕ) → List Coded
many_paths first = replicate first zero_c ++ paths_32 first 126

-- A branch over a jump to the last instruction, which is no return: first the taken edge with its 32 returns, and then past the last instruction.
abbrev pub past_many : (first : ℕ) → List Coded
past_many first = branch_c 2 ∷ jump_c (first + 133) ∷ replicate first zero_c ++ paths_32 (first + 2) 125 ++ zero_c ∷ []

-- so many returns whose credit is over, each by rule 3
abbrev pub routine_of : List Coded → (returns : ℕ) → Input
routine_of code returns = to_checker (policy_s 200) (packaged code 0 [] (replicate returns 0x03))

-- S-5: jumps to a higher index
abbrev pub jump_samples : List Sample
jump_samples =
    -- forward to an unannotated instruction; to the jump's own index; back; forward and back where nothing leads
    sample (routine_of (jump_c 1 ∷ return_c ∷ []) 1) 0 0 1
    ∷ sample (routine_of (jump_c 0 ∷ return_c ∷ []) 1) 12 0 0
    ∷ sample (routine_of (zero_c ∷ jump_c 0 ∷ []) 1) 12 1 0
    ∷ sample (routine_of (return_c ∷ jump_c 2 ∷ return_c ∷ []) 1) 0 0 1
    ∷ sample (routine_of (return_c ∷ jump_c 0 ∷ []) 1) 12 1 0
    -- the taken edge's return comes first (2 ≤ 2), then the other's (3 ≤ 2)
    ∷ sample (to_checker (policy_s 2) (packaged (branch_c 3 ∷ zero_c ∷ return_c ∷ return_c ∷ []) 0 [] (0x02 ∷ 0x03 ∷ []))) 16 45 1
    -- past the last instruction on the taken edge, and on the other after a return
    ∷ sample (routine_of (branch_c 2 ∷ return_c ∷ zero_c ∷ []) 1) 13 3 0
    ∷ sample (routine_of (branch_c 2 ∷ jump_c 3 ∷ return_c ∷ zero_c ∷ []) 1) 13 4 1
    -- 4,096 instructions of a block, and 4,097
    ∷ sample (routine_of (many_paths 1) 32) 0 0 32
    ∷ sample (routine_of (many_paths 2) 32) 23 133 31
    -- past the last instruction with 4,096 evaluated; the last one would be the 4,097th
    ∷ sample (routine_of (past_many 30) 32) 13 164 32
    ∷ sample (routine_of (past_many 31) 32) 23 164 32
    ∷ []
