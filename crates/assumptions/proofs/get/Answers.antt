use mathlib.Core.Path.{◌≡◌, ◌∙◌}
use Prim.Native.Nat.{◌%◌}
use lib.ListN.{get_or}
use native.Mathlib.Omega.{arith}
use Rattle.assumptions.proofs.Laws.{two_bits}
use Rattle.assumptions.specs.Area.{slot, kind_of, entry_of}
use Rattle.assumptions.proofs.get.Goals as goal

pub unwrap-kind-requires : goal.unwrap-kind-requires
unwrap-kind-requires c = rw (c.try_from.ensures ∙ two_bits _ (omega arith))

pub returns : goal.returns
unfolding entry_of
returns c =
    let read = c.try_from.ensures ∙ two_bits _ (omega arith) in
    let kind : c.unwrap-kind.result ≡ kind_of (get_or c.args.ws.now (slot c.args.k) 0 % 4) = cc (c.unwrap-kind.ensures, read) in
    rw kind
