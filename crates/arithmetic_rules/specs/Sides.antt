-- Rules of arithmetic that differ in an operation, or in a comparison. Assumes nothing.
use Rattle.std.specs.Prelude.{List, ◌∷◌, []}
use Rattle.model.specs.Result.{Fit, misfit, Ok, Err, ◌>>=◌, check, found}
use Rattle.model.specs.Term.{Term, sum}
use Rattle.model.specs.Atom.{Atom, at_most, compares}
use Rattle.model.specs.Goals.{Claim as Claimed}
use Rattle.model.specs.Linear.{form_difference}
use Rattle.model.specs.Rule.{sides_of}
use Rattle.model.specs.declared.Comparison.{Comparison}
use Rattle.model.specs.declared.Comparison.TheVariants.{AtMost}
use Rattle.claims.specs.Parts.{operands_for}
use Rattle.nodes.specs.declared.Operation.{Operation}
use Rattle.nodes.specs.declared.Operation.TheVariants.{Sum, Difference, Mask}

-- 14, 15: a claim of two sums, of two differences; there is no such rule of masks
abbrev pub monotone_atoms : Operation → (a b p q : Term) → Fit (List Atom)
monotone_atoms Sum a b p q = Ok (at_most a p ∷ at_most b q ∷ at_most p (sum p q) ∷ [])
monotone_atoms Difference a b p q = Ok (at_most a p ∷ at_most q b ∷ at_most b a ∷ [])
monotone_atoms Mask a b p q = Err misfit

unfoldable pub monotone_premises : Operation → Claimed → Fit (List Atom)
monotone_premises operation c = do
  (l, r) ← sides_of AtMost c
  (a, b) ← operands_for operation l
  (p, q) ← operands_for operation r
  monotone_atoms operation a b p q

-- 12, 28: a claim of sides whose forms have a difference, which compares with zero as the sides do
unfoldable pub apart_premises : Comparison → Claimed → Fit (List Atom)
apart_premises kind c = do
  (a, b) ← sides_of kind c
  d ← found (form_difference a b) misfit
  _ ← check (compares kind d 0) misfit
  Ok []
