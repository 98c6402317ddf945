use mathlib.Core.Bool.{not, ◌||◌}
use Rattle.std.proofs.Common.{rules}
use Rattle.std.proofs.lemmas.Iterator.{YieldsList-from_slice}
use Rattle.std.proofs.lemmas.Iterator.Search.{all_from_yields_List}
use Rattle.model.specs.Policy.{overlaps, may_write}
use Rattle.rights.proofs.Rights.{all_regions}
use Rattle.rights.proofs.clear.Goals as goal

pub returns : goal.returns
returns c =
    rw (← all_regions (overlaps c.args.region.now) c.args.regions.now)
    (all_from_yields_List (λ r. not (overlaps c.args.region.now r) || may_write r) _ _ _ c.all.ensures.ran (YieldsList-from_slice c.args.regions.now (cc)) (λ x b q k. (search rules, search rules)))
