use native.Mathlib.Omega.{arith}
use Rattle.model.proofs.Results.{stopped}
use Rattle.policy.proofs.PolicyLaws as laws
use Rattle.policy.proofs.read_policy.Goals as goal

pub returns-in_err-sizes-clause-read : goal.returns-in_err-sizes-clause-read
returns-in_err-sizes-clause-read c = rw (stopped _ _ c.from_residual.ensures.1) (laws.no_sizes _ _ c.in_err-sizes.ensures)

pub overflow_mul-start : goal.overflow_mul-start
overflow_mul-start c = omega (arith, (laws.bounds _ _ c.in_ok-sizes.ensures).few_regions)

pub overflow_add-start : goal.overflow_add-start
overflow_add-start c = omega (arith, (laws.bounds _ _ c.in_ok-sizes.ensures).few_regions)

pub returns-then-bytes-start-clause-read : goal.returns-then-bytes-start-clause-read
returns-then-bytes-start-clause-read c = laws.no_arrays _ _ c.in_ok-sizes.ensures c.if-bytes-start.true

pub read_regions-requires : goal.read_regions-requires
read_regions-requires c = ((laws.bounds _ _ c.in_ok-sizes.ensures).few_regions, c.if-bytes-start.false)

pub returns-in_err-regions-clause-read : goal.returns-in_err-regions-clause-read
returns-in_err-regions-clause-read c =
    rw (stopped _ _ c.from_residual-in_err-regions.ensures.1) (laws.no_regions _ _ c.in_ok-sizes.ensures c.if-bytes-start.false _ c.in_err-regions.ensures.read)

pub returns-in_err-precondition-clause-read : goal.returns-in_err-precondition-clause-read
returns-in_err-precondition-clause-read c =
    rw (stopped _ _ c.from_residual-in_err-precondition.ensures.1)
    (laws.no_conditions _ _ c.in_ok-sizes.ensures c.if-bytes-start.false _ c.in_ok-regions.ensures.read _ c.in_err-precondition.ensures.read)

pub returns-clause-read : goal.returns-clause-read
returns-clause-read c = laws.whole _ _ c.in_ok-sizes.ensures c.if-bytes-start.false _ c.in_ok-regions.ensures.read _ _ c.in_ok-precondition.ensures.read

pub returns-clause-checked : goal.returns-clause-checked
returns-clause-checked c =
    laws.checked _ _ c.in_ok-sizes.ensures c.if-bytes-start.false _ c.in_ok-regions.ensures.read _ _ c.in_ok-regions.ensures.fitting c.in_ok-precondition.ensures.stand
