-- The model's difference of two forms for what the comparison yields. Assumes nothing.
use Rattle.std.specs.Prelude.{ℕ}
use Rattle.std.proofs.Math.Option.{Option, none, some}
use Rattle.linear.specs.declared.Compared.{Compared}
use Rattle.linear.specs.declared.Compared.TheVariants.{Apart, Unlike}

-- the difference, or none
abbrev pub difference_in : Compared → Option ℕ
difference_in (Apart difference) = some difference
difference_in Unlike = none
