use mathlib.Core.Path.{refl}
use mathlib.Core.Bool.{◌&&◌}
use borrow.Author.Tests.{lt-ltb}
use Rattle.std.proofs.Common.{rules}
use Rattle.std.proofs.lemmas.Bool.{le-ltb}
use Rattle.std.proofs.lemmas.Iterator.{YieldsList-from_slice}
use Rattle.std.proofs.lemmas.Iterator.Search.{any_from_yields_List}
use Rattle.model.specs.Policy.{may_read, covers, readable_word}
use Rattle.rights.proofs.Rights.{any_region}
use Rattle.rights.proofs.readable.Goals as goal

pub returns-then-w-memory : goal.returns-then-w-memory
unfolding readable_word
returns-then-w-memory c =
    let inside = lt-ltb c.args.w c.args.memory c.if-w-memory.true in
    rw (inside, ← any_region may_read c.args.regions.now c.args.w)
    (any_from_yields_List (λ r. covers r c.args.w && may_read r) _ _ _ c.any.ensures.ran (YieldsList-from_slice c.args.regions.now (cc)) (λ x b q k. (search rules, search rules)))

pub returns-else-w-memory : goal.returns-else-w-memory
unfolding readable_word
returns-else-w-memory c = rw (le-ltb c.args.w c.args.memory c.if-w-memory.false) refl
