-- The model's rule for a rule of the table's nodes. Assumes nothing.
use Rattle.std.specs.Prelude.{List, ℕ, ◌<◌}
use Rattle.model.specs.Rule.{Rule as Ruled, from_assumption, equal_reflexive, at_most_reflexive, evaluation, equal_symmetric, equal_transitive, at_most_transitive, less_at_most, at_most_less, at_most_of_less, at_most_of_equal, congruence, linear, zero_at_most, sum_monotone, difference_monotone, successor_at_most, below_successor, sum_no_overflow, less_of_at_most, unequal_of_less, unequal_symmetric, in_readable_region, in_writable_region, contradiction, mask_at_most, shift_at_most, shift_bounded, linear_unequal}
use Rattle.nodes.specs.Table.{term_at}
use Rattle.claims.specs.declared.Rule.{Rule}
use Rattle.claims.specs.declared.Rule.TheVariants.{FromAssumption, EqualReflexive, AtMostReflexive, Evaluation, EqualSymmetric, EqualTransitive, AtMostTransitive, LessAtMost, AtMostLess, AtMostOfLess, AtMostOfEqual, Congruence, Linear, ZeroAtMost, SumMonotone, DifferenceMonotone, SuccessorAtMost, BelowSuccessor, SumNoOverflow, LessOfAtMost, UnequalOfLess, UnequalSymmetric, InReadableRegion, InWritableRegion, Contradiction, MaskAtMost, ShiftAtMost, ShiftBounded, LinearUnequal}

-- the rule that the words us say
abbrev pub rule_in : List ℕ → Rule → Ruled
rule_in us (FromAssumption index) = from_assumption index
rule_in us EqualReflexive = equal_reflexive
rule_in us AtMostReflexive = at_most_reflexive
rule_in us Evaluation = evaluation
rule_in us EqualSymmetric = equal_symmetric
rule_in us (EqualTransitive m) = equal_transitive (term_at us m)
rule_in us (AtMostTransitive m) = at_most_transitive (term_at us m)
rule_in us (LessAtMost m) = less_at_most (term_at us m)
rule_in us (AtMostLess m) = at_most_less (term_at us m)
rule_in us AtMostOfLess = at_most_of_less
rule_in us AtMostOfEqual = at_most_of_equal
rule_in us Congruence = congruence
rule_in us Linear = linear
rule_in us ZeroAtMost = zero_at_most
rule_in us SumMonotone = sum_monotone
rule_in us DifferenceMonotone = difference_monotone
rule_in us SuccessorAtMost = successor_at_most
rule_in us BelowSuccessor = below_successor
rule_in us SumNoOverflow = sum_no_overflow
rule_in us LessOfAtMost = less_of_at_most
rule_in us UnequalOfLess = unequal_of_less
rule_in us UnequalSymmetric = unequal_symmetric
rule_in us (InReadableRegion j) = in_readable_region j
rule_in us (InWritableRegion j) = in_writable_region j
rule_in us (Contradiction m) = contradiction (term_at us m)
rule_in us MaskAtMost = mask_at_most
rule_in us ShiftAtMost = shift_at_most
rule_in us ShiftBounded = shift_bounded
rule_in us LinearUnequal = linear_unequal

-- the rule's node, if it has one, is below top
abbrev pub RuleBelow : (top : ℕ) → Rule → Type 0
RuleBelow top (FromAssumption index) = Unit {0}
RuleBelow top EqualReflexive = Unit {0}
RuleBelow top AtMostReflexive = Unit {0}
RuleBelow top Evaluation = Unit {0}
RuleBelow top EqualSymmetric = Unit {0}
RuleBelow top (EqualTransitive m) = m < top
RuleBelow top (AtMostTransitive m) = m < top
RuleBelow top (LessAtMost m) = m < top
RuleBelow top (AtMostLess m) = m < top
RuleBelow top AtMostOfLess = Unit {0}
RuleBelow top AtMostOfEqual = Unit {0}
RuleBelow top Congruence = Unit {0}
RuleBelow top Linear = Unit {0}
RuleBelow top ZeroAtMost = Unit {0}
RuleBelow top SumMonotone = Unit {0}
RuleBelow top DifferenceMonotone = Unit {0}
RuleBelow top SuccessorAtMost = Unit {0}
RuleBelow top BelowSuccessor = Unit {0}
RuleBelow top SumNoOverflow = Unit {0}
RuleBelow top LessOfAtMost = Unit {0}
RuleBelow top UnequalOfLess = Unit {0}
RuleBelow top UnequalSymmetric = Unit {0}
RuleBelow top (InReadableRegion j) = Unit {0}
RuleBelow top (InWritableRegion j) = Unit {0}
RuleBelow top (Contradiction m) = m < top
RuleBelow top MaskAtMost = Unit {0}
RuleBelow top ShiftAtMost = Unit {0}
RuleBelow top ShiftBounded = Unit {0}
RuleBelow top LinearUnequal = Unit {0}
