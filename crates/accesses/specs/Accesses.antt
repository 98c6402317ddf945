-- What a load or a store on a path owes. Assumes nothing.
use Rattle.std.specs.Prelude.{◌≡◌, List, [], ◌∷◌, ℕ, ◌+◌, IfOk}
use Rattle.model.specs.Result.{Result}
use Rattle.model.specs.Term.{Term}
use Rattle.model.specs.Policy.{Policy}
use Rattle.model.specs.Goals.{Claim, readable, writable, Move, goal_of, onward, loading}
use Rattle.model.specs.declared.Right.{Right}
use Rattle.model.specs.declared.Right.TheVariants.{Read, Write}
use Rattle.nodes.specs.Table.{place}
use Rattle.workspace.specs.Layout.{Same}
use Rattle.claims.specs.declared.Claim.{Claim as NodeClaim}
use Rattle.claims.specs.declared.Claim.TheVariants.{Readable, Writable}
use Rattle.paths.specs.Walking.{path_of, Kept}
use Rattle.paths.specs.declared.Path.{Path}
use Rattle.refusals.specs.declared.Refused.{Refused}
use Rattle.model.specs.declared.Region.{Region}
use Rattle.goals.specs.declared.Progress.{Progress}
use Rattle.goals.specs.Judging.{Reached, Judges}
use Rattle.moves.specs.declared.Moved.{Moved}
use Rattle.moves.specs.Moves.{Moves, Advanced}

-- what an access by a right claims of its address, and of the address's node
abbrev pub access_claim : Right → Term → Claim
access_claim Read address = readable address
access_claim Write address = writable address

abbrev pub access_claim_at : Right → (node : ℕ) → NodeClaim
access_claim_at Read node = Readable node
access_claim_at Write node = Writable node

-- one claim of the path is derived, and its words are kept
pub record AddressJudged (ws us : List ℕ) (bytes : List ℕ) (regions : List Region) (path : Path) (claim : Claim) (p : Progress) (r : Result Progress Refused) : Type 0 where
  pub judges : (policy : Policy) → policy.regions ≡ regions → Judges bytes policy (goal_of (path_of ws path) claim ∷ []) p r
  pub kept : Kept ws us path
  pub reached : IfOk r (Reached bytes)

-- an access goes by the policy's regions alone
pub record Accesses (ws us : List ℕ) (bytes : List ℕ) (regions : List Region) (m : Move) (path : Path) (p : Progress) (r : Result Moved Refused) : Type 0 where
  pub moves : (credit : Term) → Moves ws us bytes (λ policy _. policy.regions ≡ regions) credit (λ _ _. m) path p r

-- a register takes the next variable
pub record Loads (ws us : List ℕ) (path : Path) (d : ℕ) (after : Path) : Type 0 where
  pub means : path_of us after ≡ onward (loading (path_of ws path) d)
  pub advanced : Advanced us path after
  pub counter : after.counter ≡ path.counter + 1
  pub same : Same 0 (place path.top) ws us
