use Rattle.model.proofs.Results.{stopped}
use native.Mathlib.Omega.{arith}
use Rattle.model.specs.Derivation.{rule_at}
use Rattle.claims.proofs.StepLaws.{steps}
use Rattle.rule_reader.proofs.OpeningLaws.{region_refused, row_bare}
use Rattle.rule_reader.proofs.read_argument.Goals as goal

pub returns-in_err-byte-in-22-to-23-clause-answer : goal.returns-in_err-byte-in-22-to-23-clause-answer
returns-in_err-byte-in-22-to-23-clause-answer c = rw (stopped _ _ c.from_residual-in_err-byte-in-22-to-23.ensures.1) (region_refused _ _ _ c.requires.number_read (omega arith) c.in_err-byte-in-22-to-23.ensures.answer)

pub returns-in_default-clause-answer : goal.returns-in_default-clause-answer
unfolding rule_at
returns-in_default-clause-answer c = grind (arith, steps, row_bare c.args.number (grind arith) (grind arith) (grind arith))
