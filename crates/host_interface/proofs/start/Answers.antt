use Rattle.std.proofs.Common.{rules}
use Rattle.host_interface.proofs.Laws as laws
use Rattle.host_interface.proofs.start.Goals as goal

pub returns : goal.returns
returns c = laws.started _ _ _ _ c.read_package.ensures.is c.map_or.ensures (λ p e. search rules)
