use Rattle.model.specs.Atom.{compares}
use Rattle.model.specs.Rule.{premises, sum_of, difference_of}
use Rattle.logic_rules.specs.Sides.{reflexive_premises, exchanged_premises, through_premises, weakened_premises}
use Rattle.arithmetic_rules.specs.Sides.{monotone_premises, apart_premises}
use Rattle.derivation.proofs.ChoiceLaws.{chosen_anywhere}
use Rattle.derivation.proofs.planned.Goals as goal

pub returns-in-EqualReflexive : goal.returns-in-EqualReflexive
unfolding premises reflexive_premises
returns-in-EqualReflexive c = chosen_anywhere _ _ c.in-EqualReflexive.is c.reflexive.ensures

pub returns-in-AtMostReflexive : goal.returns-in-AtMostReflexive
unfolding premises reflexive_premises
returns-in-AtMostReflexive c = chosen_anywhere _ _ c.in-AtMostReflexive.is c.reflexive-in-AtMostReflexive.ensures

pub returns-in-EqualSymmetric : goal.returns-in-EqualSymmetric
unfolding premises exchanged_premises
returns-in-EqualSymmetric c = chosen_anywhere _ _ c.in-EqualSymmetric.is (c.exchanged.ensures _ c.requires.prepared.formed)

pub returns-in-EqualTransitive : goal.returns-in-EqualTransitive
unfolding premises through_premises
returns-in-EqualTransitive c = chosen_anywhere _ _ c.in-EqualTransitive.is (c.through.ensures _ c.requires.prepared.formed)

pub returns-in-AtMostTransitive : goal.returns-in-AtMostTransitive
unfolding premises through_premises
returns-in-AtMostTransitive c = chosen_anywhere _ _ c.in-AtMostTransitive.is (c.through-in-AtMostTransitive.ensures _ c.requires.prepared.formed)

pub returns-in-LessAtMost : goal.returns-in-LessAtMost
unfolding premises through_premises
returns-in-LessAtMost c = chosen_anywhere _ _ c.in-LessAtMost.is (c.through-in-LessAtMost.ensures _ c.requires.prepared.formed)

pub returns-in-AtMostLess : goal.returns-in-AtMostLess
unfolding premises through_premises
returns-in-AtMostLess c = chosen_anywhere _ _ c.in-AtMostLess.is (c.through-in-AtMostLess.ensures _ c.requires.prepared.formed)

pub returns-in-AtMostOfLess : goal.returns-in-AtMostOfLess
unfolding premises weakened_premises
returns-in-AtMostOfLess c = chosen_anywhere _ _ c.in-AtMostOfLess.is (c.weakened.ensures _ c.requires.prepared.formed)

pub returns-in-AtMostOfEqual : goal.returns-in-AtMostOfEqual
unfolding premises weakened_premises
returns-in-AtMostOfEqual c = chosen_anywhere _ _ c.in-AtMostOfEqual.is (c.weakened-in-AtMostOfEqual.ensures _ c.requires.prepared.formed)

pub returns-in-Linear : goal.returns-in-Linear
unfolding premises apart_premises compares
returns-in-Linear c = chosen_anywhere _ _ c.in-Linear.is c.apart.ensures

pub returns-in-SumMonotone : goal.returns-in-SumMonotone
unfolding premises monotone_premises sum_of difference_of
returns-in-SumMonotone c = chosen_anywhere _ _ c.in-SumMonotone.is c.monotone.ensures

pub returns-in-DifferenceMonotone : goal.returns-in-DifferenceMonotone
unfolding premises monotone_premises sum_of difference_of
returns-in-DifferenceMonotone c = chosen_anywhere _ _ c.in-DifferenceMonotone.is c.monotone-in-DifferenceMonotone.ensures

pub returns-in-UnequalOfLess : goal.returns-in-UnequalOfLess
unfolding premises weakened_premises
returns-in-UnequalOfLess c = chosen_anywhere _ _ c.in-UnequalOfLess.is (c.weakened-in-UnequalOfLess.ensures _ c.requires.prepared.formed)

pub returns-in-UnequalSymmetric : goal.returns-in-UnequalSymmetric
unfolding premises exchanged_premises
returns-in-UnequalSymmetric c = chosen_anywhere _ _ c.in-UnequalSymmetric.is (c.exchanged-in-UnequalSymmetric.ensures _ c.requires.prepared.formed)

pub returns-in-Contradiction : goal.returns-in-Contradiction
returns-in-Contradiction c = chosen_anywhere _ _ c.in-Contradiction.is (c.contradicted.ensures _ c.requires.prepared.formed _)

pub returns-in-LinearUnequal : goal.returns-in-LinearUnequal
unfolding premises apart_premises compares
returns-in-LinearUnequal c = chosen_anywhere _ _ c.in-LinearUnequal.is c.apart-in-LinearUnequal.ensures
