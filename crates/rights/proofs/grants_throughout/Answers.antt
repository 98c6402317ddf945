use mathlib.Core.Path.{refl}
use Rattle.model.specs.Policy.{writable_region}
use Rattle.rights.proofs.grants_throughout.Goals as goal

pub returns-in-Read : goal.returns-in-Read
returns-in-Read c = rw (c.in-Read.is, c.grants.ensures) refl

pub returns-in-Write : goal.returns-in-Write
unfolding writable_region
returns-in-Write c = rw (c.in-Write.is, c.grants-in-Write.ensures, c.clear.ensures) refl
