-- The values that an evaluation keeps. Assumes nothing.
use Rattle.std.specs.Prelude.{◌≡◌, ℕ, List, Option, None, IfSome, get_or}
use Rattle.model.specs.Term.{eval}
use Rattle.nodes.specs.Table.{term_at}

-- what is kept at a node's place is the value of the node's term
pub record Right (ws : List ℕ) (kept : List (Option ℕ)) : Type 0 where
  pub is : (node : ℕ) → IfSome (get_or kept node None) (λ x. x ≡ eval (λ v. 0) (term_at ws node))
