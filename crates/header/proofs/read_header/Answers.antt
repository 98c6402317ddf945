use native.Mathlib.Omega.{arith}
use mathlib.Core.Bool.{◌&&◌}
use mathlib.Core.Path.{◌≡◌}
use lib.Dec.{leb}
use Rattle.model.specs.Package.{most_instructions}
use Rattle.model.proofs.Ranges.{told_at_most}
use Rattle.header.proofs.Headers.{short, miscounted, overnoted, wrong, good}
use Rattle.header.proofs.read_header.Goals as goal
use Rattle.header.proofs.read_header.Goals.{After-contains}

-- what the range's test tells of the instruction count
within : (c : After-contains) → c.contains.result ≡ (leb 1 c.half-instructions.result && leb c.half-instructions.result most_instructions)
within c = told_at_most 1 c.half-instructions.result most_instructions (rw (c.new.ensures.start, c.new.ensures.end, c.new.ensures.exhausted) at c.contains.ensures.value)

pub returns-then-size-lt12-clause-is : goal.returns-then-size-lt12-clause-is
returns-then-size-lt12-clause-is c = short _ c.if-size-lt12.true

pub returns-then-not-contains-clause-is : goal.returns-then-not-contains-clause-is
returns-then-not-contains-clause-is c = miscounted _ c.if-size-lt12.false _ c.half-instructions.ensures.0 _ (within (goal.at.returns-then-not-contains-clause-is c).After-contains) c.if-not-contains.true

pub returns-then-annotations-gt-MOST_ANNOTATIONS-clause-is : goal.returns-then-annotations-gt-MOST_ANNOTATIONS-clause-is
returns-then-annotations-gt-MOST_ANNOTATIONS-clause-is c = overnoted _ c.if-size-lt12.false _ c.half-instructions.ensures.0 _ (within (goal.at.returns-then-annotations-gt-MOST_ANNOTATIONS-clause-is c).After-contains) c.if-not-contains.false _ c.half-annotations.ensures.0 (omega arith)

pub returns-then-not-size-instructions-clause-is : goal.returns-then-not-size-instructions-clause-is
returns-then-not-size-instructions-clause-is c = rw c.min.ensures (wrong _ c.if-size-lt12.false _ c.half-instructions.ensures.0 _ (within (goal.at.returns-then-not-size-instructions-clause-is c).After-contains) c.if-not-contains.false _ c.half-annotations.ensures.0 (omega arith) _ _ c.word-section.ensures c.word-proof.ensures c.if-not-size-instructions.true)

pub returns-clause-is : goal.returns-clause-is
returns-clause-is c = good _ c.if-size-lt12.false _ c.half-instructions.ensures.0 _ (within (goal.at.returns-clause-is c).After-contains) c.if-not-contains.false _ c.half-annotations.ensures.0 (omega arith) _ _ c.word-section.ensures c.word-proof.ensures c.if-not-size-instructions.false
