use Rattle.claims.proofs.StepLaws.{steps}
use Rattle.model.specs.Rule.{premises, region_premises, readable_of, writable_of}
use Rattle.memory_rules.proofs.RegionLaws.{places}
use Rattle.std.proofs.Common.{sym}
use denote.Enum.Bare.{differs_false}
use native.Mathlib.Omega.{arith}
use Rattle.model.specs.contracts.Right.{the_type as right-type}
use Rattle.claims.proofs.PlanLaws.{first_is, fits, kept_term, two_put}
use Rattle.memory_rules.proofs.RegionLaws.{in_region}
use Rattle.memory_rules.proofs.in_region.Goals as goal

pub returns : goal.returns
returns c =
    let m = two_put c.put_constant.ensures c.put_constant-2.ensures in
    let t = c.in_ok-asked.ensures.below _ c.requires.claim_below in
    fits m (rw (c.new.ensures, c.new-2.ensures) at c.ask.ensures) (omega arith)
    (λ policy g o. rw (first_is c.put_constant.ensures c.put_constant-2.ensures, c.put_constant-2.ensures.is, kept_term m.kept t)
    (in_region policy g _ _ o (grind arith) (rw c.in_ok-region.ensures.ok_part at c.get.ensures.lookup.1) (cc) (differs_false right-type tt _ _ (sym c.if-ne.ensures)) (c.in_ok-asked.ensures.is _)))

pub returns-in_err-region : goal.returns-in_err-region
unfolding premises region_premises readable_of writable_of
returns-in_err-region c = grind (arith, steps, places)
