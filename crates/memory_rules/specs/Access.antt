-- Rules of memory that differ in a right. Assumes nothing.
use Rattle.std.specs.Prelude.{ℕ}
use Rattle.model.specs.Rule.{Rule, in_readable_region, in_writable_region}
use Rattle.model.specs.declared.Right.{Right}
use Rattle.model.specs.declared.Right.TheVariants.{Read, Write}

-- 22, 23: the rule of region j for a right
abbrev pub region_rule : Right → (j : ℕ) → Rule
region_rule Read j = in_readable_region j
region_rule Write j = in_writable_region j
