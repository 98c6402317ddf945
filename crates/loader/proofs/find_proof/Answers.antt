use Rattle.former.proofs.Instructions.{longer_routines}
use Rattle.loader.proofs.find_proof.Goals as goal

pub returns-clause-former : goal.returns-clause-former
returns-clause-former c = λ short. rw ((longer_routines _).kept short).section (c.find_proof.ensures.contents, c.find_proof.ensures.position.1)
