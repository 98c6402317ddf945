use Rattle.std.proofs.Common.{rules}
use borrow.Author.Tests.{tests}
use Rattle.weights.proofs.Settling.{partner_searched}
use Rattle.weights.proofs.searched.Goals as goal

pub returns : goal.returns
returns c = partner_searched _ (λ x r q k. search (rules, tests)) (λ j k. search (rules, tests)) (λ j k w. search (rules, tests)) c.rfind.ensures.runs
