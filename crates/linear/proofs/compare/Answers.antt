use mathlib.Core.Path.{◌∙◌}
use Rattle.linear.proofs.Laws.{same_twins, answered, restored}
use Rattle.linear.proofs.compare.Goals as goal

pub returns-then-twins-clause-value : goal.returns-then-twins-clause-value
returns-then-twins-clause-value c = same_twins c.requires c.twins.ensures c.if-twins.true

pub returns : goal.returns
returns c = record {
  value = c.apart_if.ensures ∙ answered c.requires c.reckon-opaque.ensures c.empty-numbered.ensures c.take-constant.ensures.value;
  same = restored c.requires c.reckon-opaque.ensures c.empty-numbered.ensures c.take-constant.ensures.after;
}
