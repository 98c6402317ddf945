-- What reading a policy owes. Assumes nothing.
use Rattle.std.specs.Prelude.{ℕ, ◌+◌, ◌≤◌, ◌≡◌, List, length, All}
use Rattle.std.proofs.Math.Path.{sym}
use Rattle.model.specs.Result.{Result, Ok, Err, map_ok}
use Rattle.model.specs.Atom.{most_atoms}
use Rattle.model.specs.Policy as model
use Rattle.model.specs.declared.Refusal.{Refusal}
use Rattle.policy.specs.declared.Policy.{Policy}
use Rattle.policy.specs.Conditions.{atoms_in, Stands}
-- passed on to users of this module: the regions of a policy, without the rest of their list
pub use Rattle.policy_regions.specs.Regions.{listed}

module _ (bytes : List ℕ) where
  -- the policy that the struct stands for
  unfoldable pub policy_of : Policy → model.Policy
  policy_of p =
      record {
        memory = p.memory;
        limit = p.limit;
        regions = listed p.regions;
        precondition = atoms_in bytes p.precondition;
        postcondition = atoms_in bytes p.postcondition;
      }

  -- the policy read, or why it is refused
  unfoldable pub policy_result : Result Policy Refusal → Result model.Policy Refusal
  policy_result r = map_ok policy_of r

  -- what holds of a policy that passed
  pub record Checked (p : Policy) : Type 0 where
    pub some_regions : 1 ≤ p.regions.count
    pub few_regions : p.regions.count ≤ model.most_regions
    pub some_memory : 1 ≤ p.memory
    pub small_memory : p.memory ≤ model.most_memory
    pub few_precondition : p.precondition.atoms ≤ most_atoms
    pub few_postcondition : p.postcondition.atoms ≤ most_atoms
    pub inside : p.precondition.at ≤ length bytes
    pub precondition_read : Stands bytes p.precondition p.postcondition.at
    pub postcondition_read : Stands bytes p.postcondition (length bytes)
    pub whole : length (listed p.regions) ≡ p.regions.count
    pub fits : All (λ r. r.base + r.size ≤ p.memory) (listed p.regions)

  -- What a caller learns from each answer.
  module _ {r : Result Policy Refusal} (answer : policy_result r ≡ model.read_policy bytes) where
    pub policy_passed : {p : Policy} → r ≡ Ok p → model.read_policy bytes ≡ Ok (policy_of p)
    unfolding policy_result
    policy_passed e = sym (rw e at answer)

    pub policy_refused : {x : Refusal} → r ≡ Err x → model.read_policy bytes ≡ Err x
    unfolding policy_result
    policy_refused e = sym (rw e at answer)
