-- Laws of the choice among the rules. Assumes nothing.
use mathlib.Core.Path.{◌≡◌}
use mathlib.Core.List.{List}
use Prim.Native.Nat.{ℕ}
use native.Mathlib.Omega.{arith}
use Rattle.model.specs.Result.{Result}
use Rattle.model.specs.declared.Misfit.{Misfit}
use Rattle.model.specs.declared.Region.{Region}
use Rattle.claims.specs.Parts.{claim_of}
use Rattle.claims.specs.Plan.{Planned, Anywhere, asks}
use Rattle.claims.specs.Rules.{rule_in}
use Rattle.claims.specs.declared.Claim.{Claim}
use Rattle.claims.specs.declared.Plan.{Plan}
use Rattle.claims.specs.declared.Rule.{Rule}
use Rattle.claims.specs.declared.Scope.{Scope}
use Rattle.derivation.specs.Deriving.{Judged}

-- what is planned is what a rule asks, that of an arm, where that goes by neither the policy nor the goal's assumptions
pub chosen_anywhere : {regions : List Region} {ws : List ℕ} {scope : Scope} {rule : Rule} {top : ℕ} {us : List ℕ} {r : Result Plan Misfit} (claim : Claim) (q : Rule) → rule ≡ q
    → Planned Anywhere (asks (rule_in ws q) (claim_of ws claim)) ws us top r → Planned (Judged regions ws scope) (asks (rule_in ws rule) (claim_of ws claim)) ws us top r
chosen_anywhere claim q e p = grind arith
