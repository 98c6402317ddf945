use Rattle.claims.proofs.PlanLaws.{stays_hinted}
use Rattle.arithmetic_rules.proofs.ArithmeticLaws.{comparable, apart_planned, unlike_refused}
use Rattle.arithmetic_rules.proofs.apart.Goals as goal

pub compare-requires : goal.compare-requires
compare-requires c = comparable _ _ c.requires.formed (c.in_ok-a.ensures.is _) (c.in_ok-a.ensures.below _ c.requires.claim_below) c.requires.linear

pub returns-in-Apart : goal.returns-in-Apart
returns-in-Apart c =
    apart_planned _ _ (c.in_ok-a.ensures.is _) (stays_hinted c.requires.formed c.compare.ensures.same c.compare.auto.ws) _ _ (rw c.in-Apart.is at c.compare.ensures.value) c.holds.ensures c.ask_nothing_if.ensures.fits c.ask_nothing_if.ensures.top

pub returns-in-Unlike : goal.returns-in-Unlike
returns-in-Unlike c = unlike_refused _ _ (c.in_ok-a.ensures.is _) (stays_hinted c.requires.formed c.compare.ensures.same c.compare.auto.ws) (rw c.in-Unlike.is at c.compare.ensures.value)
