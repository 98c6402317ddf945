-- What a run leaves as it was, as a statement about every run, accepted or not. Its proof stands in proofs/.
use Rattle.std.specs.Prelude.{ℕ, ◌≡◌, false, List}
use Rattle.std.proofs.Math.ListN.{get_elem?}
use Rattle.model.specs.Result.{Ok}
use Rattle.model.specs.Policy.{Policy, read_policy, writable_word}
use Rattle.model.specs.Runner.{run_of}

-- a word that the policy in the bytes, if there is one, does not make writable
unfoldable pub Protected : (policy_bytes : List ℕ) → (word : ℕ) → Type 0
Protected policy_bytes word = (policy : Policy) → read_policy policy_bytes ≡ Ok policy → writable_word policy word ≡ false

-- Whatever the package, the registers, the memory and the budget: a memory word that the policy does not make writable holds after
-- the run what it held before. (Words past the memory's end included: the memory keeps its length.)
unfoldable pub Kept : Type 0
Kept =
    (policy_bytes package_bytes registers memory : List ℕ) (budget word : ℕ)
    → Protected policy_bytes word
    → get_elem? (run_of policy_bytes package_bytes registers memory budget).memory word ≡ get_elem? memory word
