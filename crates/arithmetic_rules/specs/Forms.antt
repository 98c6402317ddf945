-- What the comparison of linear forms needs of a claim. Assumes nothing.
use Rattle.std.specs.Prelude.{List, ℕ, ◌≤◌}
use Rattle.model_laws.specs.Bounded.{ClaimBounded}
use Rattle.workspace.specs.Layout.{most_variables}
use Rattle.forms.specs.Area.{Cleared}
use Rattle.claims.specs.Parts.{claim_of}
use Rattle.claims.specs.declared.Claim.{Claim}

-- what linear forms need: few variables, those of the claim among them, and the coefficients' area free
pub record Linear (ws : List ℕ) (variables : ℕ) (claim : Claim) : Type 0 where
  pub most : variables ≤ most_variables
  pub bounded : ClaimBounded variables (claim_of ws claim)
  pub cleared : Cleared ws
