use Rattle.moves.proofs.Assigning.{assigned_on, assigned_not}
use Rattle.moves.proofs.assignments.assign.Goals as goal

pub returns-then-not-small : goal.returns-then-not-small
returns-then-not-small c = assigned_not _ _ _ c.small.ensures c.if-not-small.true

pub returns : goal.returns
returns c = assigned_on _ _ _ c.small.ensures c.if-not-small.false c.written.ensures c.stepped.ensures
