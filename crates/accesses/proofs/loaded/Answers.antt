use Rattle.accesses.proofs.Accessing.{variable_loads}
use Rattle.accesses.proofs.loaded.Goals as goal

pub returns : goal.returns
returns c = variable_loads c.requires.room_for c.put_variable.auto.ws c.requires.register c.put_variable.ensures c.raised-raised.ensures c.with_variable.ensures c.written-written.ensures c.stepped.ensures
