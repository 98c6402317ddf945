use mathlib.Core.Path.{ap}
use native.Mathlib.Omega.{arith}
use Rattle.rule_reader.specs.Opening.{rule_of_row}
use Rattle.rule_reader.proofs.OpeningLaws.{row_unknown}
use Rattle.rule_reader.proofs.rule_of.Goals as goal

pub returns-in_default-clause-answer : goal.returns-in_default-clause-answer
returns-in_default-clause-answer c = λ us. ap (rule_of_row us c.args.argument) (row_unknown c.args.number (omega arith))
