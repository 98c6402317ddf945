use Rattle.blocks.proofs.Starting.{all_passed, atom_unread, raised_in, atom_passed}
use Rattle.blocks.proofs.assume.Goals as goal

pub returns-in_default : goal.returns-in_default
returns-in_default c = atom_unread c.loop.invariant c.loop-test.true c.atom.auto.ws c.in_default.ensures.grown c.in_default.ensures.answer

pub assuming-path-requires-clause-path_in : goal.assuming-path-requires-clause-path_in
assuming-path-requires-clause-path_in c = raised_in c.loop.invariant c.loop-test.true c.atom.auto.ws c.in-Ok.ensures.grown c.in-Ok.ensures.answer c.raised.ensures

pub loop-preserved : goal.loop-preserved
loop-preserved c = atom_passed c.loop.invariant c.loop-test.true c.atom.auto.ws c.in-Ok.ensures.grown c.in-Ok.ensures.answer c.raised.ensures c.assuming-path.ensures c.assuming-path.auto.ws

pub returns : goal.returns
returns c = all_passed c.loop.invariant c.loop-test.false
