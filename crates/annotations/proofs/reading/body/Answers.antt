use Rattle.std.proofs.Common.{◌∙◌}
use Rattle.model.proofs.Results.{stopped}
use Rattle.annotations.proofs.Annotations.{body_stops, body_goes}
use Rattle.annotations.proofs.reading.body.Goals as goal

pub returns-in_err-next-clause-ends : goal.returns-in_err-next-clause-ends
returns-in_err-next-clause-ends c = stopped _ _ c.from_residual.ensures.1 ∙ body_stops _ _ _ _ _ c.in_err-next.ensures.ends

pub returns-clause-ends : goal.returns-clause-ends
returns-clause-ends c = body_goes _ _ _ _ _ _ c.in_ok-next.ensures.ends c.atoms.ensures.ends
