use Rattle.model.proofs.Results.{stopped}
use Rattle.policy_regions.specs.Regions.{regions_result}
use Rattle.policy_regions.proofs.RegionsLaws as laws
use Rattle.policy_regions.proofs.read_regions.Goals as goal

pub loop-j-init : goal.loop-j-init
loop-j-init c = laws.begin _ _ _ c.requires.0 c.new-regions.ensures

pub returns-in_err-read_region-clause-read : goal.returns-in_err-read_region-clause-read
returns-in_err-read_region-clause-read c = rw (stopped _ _ c.from_residual.ensures.1) (laws.stops _ _ _ _ c.loop-j.invariant c.loop-j-test.true _ c.in_err-read_region.ensures)

pub loop-j-preserved : goal.loop-j-preserved
loop-j-preserved c = laws.further _ _ _ _ c.loop-j.invariant c.loop-j-test.true _ c.in_ok-read_region.ensures _ c.push.ensures

pub returns-clause-read : goal.returns-clause-read
unfolding regions_result
returns-clause-read c = laws.ends _ _ _ _ c.loop-j.invariant c.loop-j-test.false

pub returns-clause-fitting : goal.returns-clause-fitting
returns-clause-fitting c = laws.fitting _ _ _ (laws.ends _ _ _ _ c.loop-j.invariant c.loop-j-test.false)
