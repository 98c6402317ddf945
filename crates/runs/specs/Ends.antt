-- The numbers of the ways in which a run ends. Assumes nothing.
use Rattle.std.specs.Prelude.{ℕ}
use Rattle.runs.specs.declared.End.{End}
use Rattle.runs.specs.declared.End.TheVariants.{Returned, BudgetSpent, WithoutRight, PastEnd}

-- "0 returned, 20 budget spent, 21 access without the right, 22 counter at n"
abbrev pub end_number : End → ℕ
end_number Returned = 0
end_number BudgetSpent = 20
end_number WithoutRight = 21
end_number PastEnd = 22
