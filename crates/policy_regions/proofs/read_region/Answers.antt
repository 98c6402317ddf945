use Rattle.policy_regions.proofs.RegionsLaws as laws
use Rattle.policy_regions.proofs.read_region.Goals as goal

pub returns-then-fits : goal.returns-then-fits
returns-then-fits c = laws.fit _ _ _ _ c.region-next.ensures _ c.fits.ensures c.if-fits.true

pub returns : goal.returns
returns c = laws.unfit _ _ _ _ c.region-next.ensures _ c.fits.ensures c.if-fits.false
