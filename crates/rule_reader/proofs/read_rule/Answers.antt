use Rattle.rule_reader.proofs.OpeningLaws.{rule_opened}
use native.Mathlib.Omega.{arith}
use Rattle.model.specs.Derivation.{rule_at}
use Rattle.claims.proofs.StepLaws.{steps}
use Rattle.rule_reader.proofs.read_rule.Goals as goal

pub returns-in_err-rule-clause-answer : goal.returns-in_err-rule-clause-answer
unfolding rule_at
returns-in_err-rule-clause-answer c = grind (arith, steps, c.rule_of.ensures.answer c.read_argument.new.ws)

pub returns-clause-answer : goal.returns-clause-answer
returns-clause-answer c = rule_opened c.read_argument.new.ws _ (grind (arith, c.rule_of.ensures.answer c.read_argument.new.ws)) c.in_ok-argument.ensures.answer

pub returns-clause-grown : goal.returns-clause-grown
returns-clause-grown c = grind (arith, c.rule_of.ensures.below c.in_ok-argument.argument.top)
