-- Rules of logic that differ in a kind. Assumes nothing.
use Rattle.std.specs.Prelude.{List, ◌∷◌, []}
use Rattle.model.specs.Result.{Fit, misfit, Ok, check, ◌>>=◌}
use Rattle.model.specs.Term.{Term, eq_term}
use Rattle.model.specs.Atom.{Atom}
use Rattle.model.specs.Goals.{Claim as Claimed}
use Rattle.model.specs.Rule.{sides_of}
use Rattle.model.specs.declared.Comparison.{Comparison}

-- 1, 2: a ~ a
unfoldable pub reflexive_premises : Comparison → Claimed → Fit (List Atom)
reflexive_premises kind c = do
  (a, b) ← sides_of kind c
  _ ← check (eq_term a b) misfit
  Ok []

-- 4, 21: a ~ b from b ~ a
unfoldable pub exchanged_premises : Comparison → Claimed → Fit (List Atom)
exchanged_premises kind c = do
  (a, b) ← sides_of kind c
  Ok (record { kind = kind; left = b; right = a } ∷ [])

-- 5 to 8: a claim a ~ b of the kind `whole` from a ~ m, m ~ b
unfoldable pub through_premises : (whole first : Comparison) (m : Term) (second : Comparison) → Claimed → Fit (List Atom)
through_premises whole first m second c = do
  (a, b) ← sides_of whole c
  Ok (record { kind = first; left = a; right = m } ∷ record { kind = second; left = m; right = b } ∷ [])

-- 9, 10, 20: a claim a ~ b of the kind `whole` from a ~ b of another
unfoldable pub weakened_premises : (whole other : Comparison) → Claimed → Fit (List Atom)
weakened_premises whole other c = do
  (a, b) ← sides_of whole c
  Ok (record { kind = other; left = a; right = b } ∷ [])
