-- The ways out of read_policy. Assumes nothing.
use Prim.Native.Nat.{ℕ, ◌+◌, ◌*◌, ◌≤◌, ◌<◌}
use mathlib.Core.Path.{◌≡◌, sym}
use mathlib.Core.List.{List}
use native.Mathlib.Omega.{arith}
use lib.ListN.{length}
use lib.Dec.{leb}
use borrow.Author.Tests.{le-leb, lt-leb}
use Rattle.model.specs.Result.{Result, Err, Ok, ◌>>=◌, check}
use Rattle.model.specs.Policy as model
use Rattle.model.specs.Policy.{sizes_of, regions_from, read_policy}
use Rattle.model.specs.declared.Sizes.{Sizes}
use Rattle.model.specs.declared.Refusal.{Refusal}
use Rattle.model.specs.declared.Refusal.TheVariants.{PolicyLength}
use Rattle.policy_regions.specs.Regions.{Regions, regions_result, Fitting}
use Rattle.policy.specs.declared.Condition.{Condition}
use Rattle.policy.specs.Conditions.{conditions_of, conditions_result, BothStand}
use Rattle.policy.specs.Policy.{policy_of, policy_result, Checked}
use Rattle.model.proofs.Results.{then_then, value_then}
use Rattle.model.proofs.Gives.{gives_value}
use Rattle.policy_sizes.proofs.SizesLaws.{Sized, sized}

-- the definition with both conditions as one
read_by : List ℕ → Result model.Policy Refusal
read_by bytes = do
  s ← sizes_of bytes
  _ ← check (leb (12 + 8 * s.regions) (length bytes)) (PolicyLength (length bytes))
  regions ← regions_from bytes s s.regions 0
  (pre, post) ← conditions_of bytes s (12 + 8 * s.regions)
  Ok (record { memory = s.memory; limit = s.limit; regions = regions; precondition = pre; postcondition = post })

by_parts : (bytes : List ℕ) → read_policy bytes ≡ read_by bytes
unfolding read_policy read_by conditions_of
by_parts bytes = simp (then_then, value_then)

-- The ways out, in the code's order: the sizes, the arrays, the regions, the conditions, and a policy that passed.
module _ (bytes : List ℕ) where
  pub no_sizes : (x : Refusal) → Err x ≡ sizes_of bytes → policy_result bytes (Err x) ≡ read_policy bytes
  unfolding policy_result read_by ◌>>=◌
  no_sizes x e = rw (by_parts bytes, ← e)

  module _ (s : Sizes) (e : Ok s ≡ sizes_of bytes) where
    pub bounds : Sized s
    bounds = gives_value (sym e) (sized bytes)

    pub no_arrays : length bytes < 12 + 8 * s.regions → policy_result bytes (Err (PolicyLength (length bytes))) ≡ read_policy bytes
    unfolding policy_result read_by ◌>>=◌ check
    no_arrays h = rw (by_parts bytes, ← e, lt-leb (12 + 8 * s.regions) (length bytes) h)

    module _ (there : 12 + 8 * s.regions ≤ length bytes) where
      -- what is left once both arrays are there
      from_here : (regions_from bytes s s.regions 0 >>= λ regions. conditions_of bytes s (12 + 8 * s.regions) >>= λ c. Ok (record { memory = s.memory; limit = s.limit; regions = regions; precondition = c.0; postcondition = c.1 })) ≡ read_policy bytes
      unfolding read_by ◌>>=◌ check
      from_here = rw (by_parts bytes, ← e, le-leb (12 + 8 * s.regions) (length bytes) there)

      pub no_regions : (x : Refusal) → regions_result (Err x) ≡ regions_from bytes s s.regions 0 → policy_result bytes (Err x) ≡ read_policy bytes
      unfolding policy_result regions_result ◌>>=◌
      no_regions x f = rw (← from_here, ← f)

      module _ (regions : Regions) (f : regions_result (Ok regions) ≡ regions_from bytes s s.regions 0) where
        pub no_conditions : (x : Refusal) → conditions_result bytes (Err x) ≡ conditions_of bytes s (12 + 8 * s.regions) → policy_result bytes (Err x) ≡ read_policy bytes
        unfolding policy_result regions_result conditions_result ◌>>=◌
        no_conditions x g = rw (← from_here, ← f, ← g)

        module _ (pre post : Condition) where
          pub whole : conditions_result bytes (Ok (pre, post)) ≡ conditions_of bytes s (12 + 8 * s.regions)
              → policy_result bytes (Ok (record { memory = s.memory; limit = s.limit; regions = regions; precondition = pre; postcondition = post })) ≡ read_policy bytes
          unfolding policy_result policy_of regions_result conditions_result ◌>>=◌
          whole g = rw (← from_here, ← f, ← g)

          pub checked : Fitting s regions → BothStand bytes s (12 + 8 * s.regions) pre post
              → Checked bytes (record { memory = s.memory; limit = s.limit; regions = regions; precondition = pre; postcondition = post })
          checked fit stand = record {
            some_regions = omega (arith, bounds.some_regions, fit.counted);
            few_regions = regions.within;
            some_memory = bounds.some_memory;
            small_memory = bounds.small_memory;
            few_precondition = omega (arith, bounds.few_precondition, stand.first);
            few_postcondition = omega (arith, bounds.few_postcondition, stand.second);
            inside = omega (arith, there, stand.starts);
            precondition_read = stand.precondition_read;
            postcondition_read = stand.postcondition_read;
            whole = fit.whole;
            fits = fit.ends;
          }
