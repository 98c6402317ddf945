-- What reading a package answers, in the definitions' terms. Assumes nothing.
use Rattle.model.specs.Result.{Result, map_ok}
use Rattle.model.specs.declared.Header.{Header}
use Rattle.model.specs.declared.Refusal.{Refusal}
use Rattle.header.specs.declared.package.Package.{Package}

-- the header of the package, or the refusal
abbrev pub headed : Result Package Refusal → Result Header Refusal
headed r = map_ok (λ p. p.header) r
