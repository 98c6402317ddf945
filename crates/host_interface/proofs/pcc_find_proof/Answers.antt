use Rattle.former.proofs.Instructions.{longer_routines}
use Rattle.host_interface.proofs.pcc_find_proof.Goals as goal

pub returns-clause-longer : goal.returns-clause-longer
returns-clause-longer c = longer_routines _
