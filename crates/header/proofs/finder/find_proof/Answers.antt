use mathlib.Core.Path.{refl}
use native.Mathlib.Omega.{arith}
use Rattle.header.proofs.Headers.{proof_part, no_part}
use Rattle.header.proofs.finder.find_proof.Goals as goal

pub returns-in-Ok-clause-contents : goal.returns-in-Ok-clause-contents
returns-in-Ok-clause-contents c = (proof_part _ c.in-Ok.ensures.is _ c.proof_start.ensures).0

pub returns-in-Ok-clause-position : goal.returns-in-Ok-clause-position
returns-in-Ok-clause-position c = let k = proof_part _ c.in-Ok.ensures.is _ c.proof_start.ensures in (refl, omega (arith, k.1))

pub returns-in-Err-clause-contents : goal.returns-in-Err-clause-contents
returns-in-Err-clause-contents c = (no_part _ c.in-Err.ensures.is).0

pub returns-in-Err-clause-position : goal.returns-in-Err-clause-position
returns-in-Err-clause-position c = let k = no_part _ c.in-Err.ensures.is in (refl, omega (arith, k.1))
