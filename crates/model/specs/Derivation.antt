-- Derivations: prefix form in the proof section, read against a goal. Assumes nothing.
use Rattle.std.specs.Prelude.{ℕ, zero, suc, ◌+◌, List, [], ◌∷◌, length}
use Rattle.std.proofs.Math.ListN.{get_elem?}
use Rattle.model.specs.Result.{Result, Err, Ok, ◌>>=◌, found, map_err}
use Rattle.model.specs.Atom.{Atom}
use Rattle.model.specs.Field.{byte_at, half_at}
use Rattle.model.specs.declared.ReadError.{ReadError}
use Rattle.model.specs.declared.ReadError.TheVariants.{Missing, Fault}
use Rattle.model.specs.Expression.{expression_at}
use Rattle.model.specs.Policy.{Policy}
use Rattle.model.specs.Goals.{Claim, atom, Goal}
use Rattle.model.specs.declared.Refusal.{Refusal}
use Rattle.model.specs.declared.Refusal.TheVariants.{ProofExhausted, UnfitRule, DeepDerivation, BadArgument}
use Rattle.model.specs.Rule.{Rule, plain, with_index, with_term, with_region, rules, premises}

-- "At most 32 deep, the root being 1."
abbrev pub most_levels : ℕ
most_levels = 32

-- the package's bytes, to whose end the proof runs
module _ (bytes : List ℕ) where
  -- "15: proof exhausted (package length)"; "18: argument faulty as in 6 .. (byte)"
  unfoldable pub proof_refusal : ReadError → Refusal
  proof_refusal Missing = ProofExhausted (length bytes)
  proof_refusal (Fault p) = BadArgument p

  abbrev pub proof_field : {A : Type 0} → Result A ReadError → Result A Refusal
  proof_field = map_err proof_refusal

  -- The rule at p with its arguments, and the next position. 16 for an unknown rule (rule byte).
  -- "Argument m is an expression whose variables exist on the path so far."
  unfoldable pub rule_at : (variables p : ℕ) → Result (Rule × ℕ) Refusal
  rule_at variables p = do
    number ← proof_field (byte_at bytes (length bytes) p)
    format ← found (get_elem? rules number) (UnfitRule p)
    elim format [
      | plain rule ↦ Ok (rule, p + 1)
      | with_index rule ↦ do
        index ← proof_field (half_at bytes (length bytes) (p + 1))
        Ok (rule index, p + 3)
      | with_term rule ↦ do
        (m, q) ← proof_field (expression_at bytes (length bytes) variables (p + 1))
        Ok (rule m, q)
      | with_region rule ↦ do
        j ← proof_field (byte_at bytes (length bytes) (p + 1))
        Ok (rule j, p + 2)
    ]

  -- derivations of claims, one after the other, each by `one`: the position after the last
  unfoldable pub derive_all : (one : Claim → ℕ → Result ℕ Refusal) → List Atom → (p : ℕ) → Result ℕ Refusal
  derive_all one [] p = Ok p
  derive_all one (a ∷ rest) p = do
    q ← one (atom a) p
    derive_all one rest q

  module _ (policy : Policy) (g : Goal) where
    -- The derivation of a claim at p, with so many levels left: the position after it. "17 is tested before its rule byte is read";
    -- 16 for a rule that does not fit (rule byte), "after its arguments are read"; then the premises in order.
    unfoldable pub derive : (levels : ℕ) → Claim → (p : ℕ) → Result ℕ Refusal
    derive zero claim p = Err (DeepDerivation p)
    derive (suc levels) claim p = do
      (rule, q) ← rule_at g.variables p
      atoms ← map_err (λ _. UnfitRule p) (premises policy g rule claim)
      derive_all (λ c r. derive levels c r) atoms q
