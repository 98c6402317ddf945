-- What is read from bytes is well formed: regions inside the memory, expressions over the registers, constants that are words. Assumes nothing.
use Prim.Native.Nat.{ℕ, ◌≤◌, ◌<◌, ◌^◌, ◌+◌, zero, suc, ◌*◌, ◌-◌}
use mathlib.Core.Bool.{Bool, true, ◌&&◌}
use mathlib.Core.List.{List}
use mathlib.Core.Path.{◌≡◌, refl, ap, ◌∙◌}
use native.Mathlib.Omega.{arith}
use lib.Dec.{leb, ltb, lit<}
use lib.ListN.{length, get_or}
use borrow.Author.Tests.{ltb-true, leb-true}
use Rattle.model.specs.Annotation.{Annotation, annotation_from, annotations_from, read_annotations}
use Rattle.model.specs.Atom.{Atom}
use Rattle.model.specs.Expression.{Form, forms, register_count, Nodes, node_of, nodes_at, expression_at, atom_at, atoms_at, four_byte_constant, two_byte_variable, two_expressions, count_and_expression}
use Rattle.model.specs.declared.ReadError.TheVariants.{Fault}
use Rattle.model.specs.Instruction.{provided, operations, decode}
use Rattle.model.specs.Package.{immediate_start, annotation_start, proof_start, most_instructions, read_header, instructions_from, read_code, code_of}
use Rattle.model.specs.Policy.{Policy, region_fits, sizes_of, region_at, regions_from, read_policy}
use Rattle.model.specs.Result.{Result, ◌>>=◌, check, misfit, Ok}
use Rattle.model.specs.Routine.{Routine, read_routine}
use Rattle.model.specs.Term.{Term}
use Rattle.model.specs.Word.{le16, le32, AllBelow}
use Rattle.model.specs.declared.Header.{Header}
use Rattle.model.specs.declared.Instruction.{Instruction}
use Rattle.model.specs.declared.Refusal.{Refusal}
use Rattle.model.specs.declared.Refusal.TheVariants.{PolicySize, BadRegion, BadHeader}
use Rattle.model.specs.declared.Sizes.{Sizes}
use Rattle.model.proofs.Formed.{FormedAnnotation, FormedRoutine, WordInstruction}
use Rattle.model.proofs.Gives.{Gives, gives_check, gives_element, gives_as, gives, gives_then, gives_next, gives_value, stops}
use Rattle.model.proofs.Lists.{empty, below_get, Every, ◌&◌}
use Rattle.model.proofs.Rules.{RegionsFit}
use Rattle.model.proofs.Terms.{RegisterAtom, and_right, RegisterTerm}

-- ---- expressions and atoms over the registers

FormedForm : Form → Type 0
FormedForm four_byte_constant = Unit
FormedForm two_byte_variable = Unit
FormedForm (two_expressions operation) = (s t : Term) → RegisterTerm s → RegisterTerm t → RegisterTerm (operation s t)
FormedForm (count_and_expression operation) = (count : ℕ) (s : Term) → RegisterTerm s → RegisterTerm (operation count s)

forms_formed : Every FormedForm forms
unfolding FormedForm RegisterTerm
forms_formed =
    let both : (s t : Term) → RegisterTerm s → RegisterTerm t → RegisterTerm s × RegisterTerm t = λ s t v w. (v, w) in
    let one : (count : ℕ) (s : Term) → RegisterTerm s → RegisterTerm s = λ count s v. v in
    tt & tt & both & both & both & one & empty

module _ (bytes : List ℕ) (end : ℕ) where
  abbrev NodesFormed : Nodes → Type 0
  NodesFormed = Gives (λ (r : Term × ℕ × ℕ). RegisterTerm r.0)

  node_formed : (operand : (left p : ℕ) → Nodes) → ((left p : ℕ) → NodesFormed (operand left p))
      → (form : Form) → FormedForm form → (left p : ℕ) → NodesFormed (node_of bytes end register_count operand form left p)
  unfolding node_of FormedForm RegisterTerm
  node_formed operand each four_byte_constant w left p = gives_next λ _ _. gives tt
  node_formed operand each two_byte_variable w left p =
      gives_next λ v _. gives_then (gives_check (ltb v register_count) (Fault (p + 1))) λ _ l. gives (ltb-true v register_count l)
  node_formed operand each (two_expressions operation) w left p =
      gives_then (each (left - 1) (p + 1)) λ s u. gives_then (each s.2 s.1) λ t v. gives (w s.0 t.0 u v)
  node_formed operand each (count_and_expression operation) w left p =
      gives_next λ count _. gives_next λ _ _. gives_then (each (left - 1) (p + 2)) λ s u. gives (w count s.0 u)

  nodes_formed : (depth left p : ℕ) → NodesFormed (nodes_at bytes end register_count depth left p)
  unfolding nodes_at
  nodes_formed zero left p = gives_next λ _ _. stops
  nodes_formed (suc depth) left p =
      gives_next λ tag _.
      gives_next λ _ _.
      gives_then (gives_element tag (Fault p) forms_formed) λ form w. node_formed _ (nodes_formed depth) form w left p

  expression_formed : (p : ℕ) → Gives (λ (r : Term × ℕ). RegisterTerm r.0) (expression_at bytes end register_count p)
  unfolding expression_at
  expression_formed p = gives_then (nodes_formed 31 31 p) λ _ w. gives w

  atom_formed : (p : ℕ) → Gives (λ (r : Atom × ℕ). RegisterAtom r.0) (atom_at bytes end register_count p)
  unfolding atom_at
  atom_formed p =
      gives_next λ _ _.
      gives_next λ _ _.
      gives_then (expression_formed (p + 1)) λ s v.
      gives_then (expression_formed s.1) λ t w. gives (v, w)

  atoms_formed : (count p : ℕ) → Gives (λ (r : List Atom × ℕ). Every RegisterAtom r.0) (atoms_at bytes end register_count count p)
  unfolding atoms_at
  atoms_formed zero p = gives empty
  atoms_formed (suc count) p = gives_then (atom_formed p) λ a v. gives_then (atoms_formed count a.1) λ _ w. gives (v & w)

-- ---- the policy

-- check 4 of the memory
memory_small : (m : ℕ) {u : Unit {0}} → check (leb 1 m && leb m 16384) (PolicySize 4) ≡ Ok u → m < 2 ^ 32
memory_small m e =
    let h = gives_value e (gives_check (leb 1 m && leb m 16384) (PolicySize 4)) in
    omega (arith, leb-true m 16384 (search and_right))

module _ (bytes : List ℕ) where
  sizes_read : Gives (λ (s : Sizes). s.memory < 2 ^ 32) (sizes_of bytes)
  unfolding sizes_of
  sizes_read = search (gives_next, gives, memory_small) depth 40

  regions_fit : (sizes : Sizes) (left j : ℕ) → Gives (Every (λ r. region_fits sizes.memory r ≡ true)) (regions_from bytes sizes left j)
  unfolding regions_from
  regions_fit sizes zero j = gives empty
  regions_fit sizes (suc left) j =
      gives_then (gives_check (region_fits sizes.memory (region_at bytes sizes.regions j)) (BadRegion j)) λ _ h.
      gives_then (regions_fit sizes left (j + 1)) λ _ hs. gives (h & hs)

  pub policy_formed : Gives (λ (policy : Policy). RegionsFit policy × Every RegisterAtom policy.precondition) (read_policy bytes)
  unfolding read_policy
  policy_formed =
      gives_then sizes_read λ sizes small.
      gives_next λ _ _.
      gives_then (regions_fit sizes sizes.regions 0) λ _ fit.
      gives_then (gives_as _ (atoms_formed bytes (length bytes) sizes.precondition (12 + 8 * sizes.regions))) λ _ w.
      gives_next λ _ _.
      gives_next λ _ _. gives (record { memory_word = small; each = fit }, w)

-- ---- the code

pub word_below : (bytes : List ℕ) → AllBelow (2 ^ 8) bytes → (p : ℕ) → le32 bytes p < 2 ^ 32
unfolding le32 le16
word_below bytes below p =
    let byte : (i : ℕ) → get_or bytes i 0 < 2 ^ 8 = λ i. below_get bytes i below (lit< tt) in
    omega (arith, byte p, byte (p + 1), byte (p + 2), byte (p + 2 + 1))

provided_word : (test : Bool) (instruction : Instruction) → WordInstruction instruction → Gives WordInstruction (provided test instruction)
unfolding provided
provided_word test instruction w = gives_next λ _ _. gives w

operations_word : Every (λ operation. (d a b i : ℕ) → i < 2 ^ 32 → Gives WordInstruction (operation d a b i)) operations
unfolding WordInstruction
operations_word = search (◌&◌, empty, provided_word) depth 28

decode_word : (op d a b i : ℕ) → i < 2 ^ 32 → Gives WordInstruction (decode op d a b i)
unfolding decode
decode_word op d a b i w = gives_then (gives_element op misfit operations_word) λ operation h. h d a b i w

module _ (bytes : List ℕ) (below : AllBelow (2 ^ 8) bytes) (h : Header) where
  code_formed : (left index : ℕ) → Gives (λ (code : List Instruction). Every WordInstruction code × (length code ≡ left)) (instructions_from bytes h left index)
  unfolding instructions_from
  code_formed zero index = gives (empty, refl)
  code_formed (suc left) index =
      gives_then (gives_as _ (decode_word _ _ _ _ _ (word_below bytes below (immediate_start h + 4 * index)))) λ instruction w.
      gives_next λ _ _.
      gives_then (code_formed left (index + 1)) λ rest ws. gives (w & ws.0, ap suc ws.1)

-- ---- the routine

module _ (bytes : List ℕ) where
  header_formed : Gives (λ (h : Header). h.instructions ≤ most_instructions) (read_header bytes)
  unfolding read_header
  header_formed =
      let n = le16 bytes 0 in
      gives_next λ _ _.
      gives_then (gives_check (leb 1 n && leb n most_instructions) (BadHeader 0)) λ _ few.
      gives_next λ _ _.
      gives_next λ _ _. gives (leb-true n most_instructions (and_right (leb 1 n) (leb n most_instructions) few))

  module _ (h : Header) where
    annotation_formed : (lowest p : ℕ) → Gives (λ (r : Annotation × ℕ). FormedAnnotation r.0) (annotation_from bytes h lowest p)
    unfolding annotation_from
    annotation_formed lowest p =
        gives_next λ _ _.
        gives_next λ _ _.
        gives_next λ count _.
        gives_next λ _ _.
        gives_then (gives_as _ (expression_formed bytes (proof_start h) (p + 3))) λ credit v.
        gives_then (gives_as _ (atoms_formed bytes (proof_start h) count credit.1)) λ atoms w.
        gives (record { credit = v; atoms = w })

    annotations_formed : (left lowest p : ℕ)
        → Gives (λ (r : List Annotation × ℕ). Every FormedAnnotation r.0) (annotations_from bytes h left lowest p)
    unfolding annotations_from
    annotations_formed zero lowest p = gives empty
    annotations_formed (suc left) lowest p =
        gives_then (annotation_formed lowest p) λ a v. gives_then (annotations_formed left (a.0.index + 1) a.1) λ _ w. gives (v & w)

    section_formed : Gives (Every FormedAnnotation) (read_annotations bytes h)
    unfolding read_annotations
    section_formed = gives_then (annotations_formed h.annotations 0 (annotation_start h)) λ r w. gives_next λ _ _. gives w

-- the header and the code once more, as `code_of` reads them
code_read : (bytes : List ℕ) {h : Header} {code : List Instruction} → read_header bytes ≡ Ok h → read_code bytes h ≡ Ok code
    → code_of bytes ≡ Ok code
unfolding code_of ◌>>=◌
code_read bytes e f = ap (λ (x : Result Header Refusal). x >>= read_code bytes) e ∙ f

pub routine_formed : (bytes : List ℕ) → AllBelow (2 ^ 8) bytes
    → Gives (λ (r : Routine). FormedRoutine r × (code_of bytes ≡ Ok r.code)) (read_routine bytes)
unfolding read_routine read_code
routine_formed bytes below =
    gives_next λ h e.
    gives_next λ code f.
    gives_then (section_formed bytes h) λ annotations w.
    gives_next λ _ _.
    let (words, count) = gives_value f (code_formed bytes below h h.instructions 0) in
    let few = gives_value e (header_formed bytes) in
    gives (record { few = rw count few; code = words; annotations = w }, code_read bytes e f)
