use Rattle.weights.proofs.Weights.{weighable_both, spread_both}
use Rattle.weights.proofs.reckon_by_table.Goals as goal

pub spread-requires : goal.spread-requires
spread-requires c = weighable_both c.requires.comparable c.requires.nodes_value c.give.ensures c.give-2.ensures

pub returns : goal.returns
returns c = spread_both c.requires.comparable c.requires.nodes_value c.give.ensures c.give-2.ensures c.spread.ensures
