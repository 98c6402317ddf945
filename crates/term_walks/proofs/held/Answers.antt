use mathlib.Core.Path.{sym, ◌∙◌}
use Rattle.nodes.proofs.Facts.{value_is_kept}
use Rattle.term_walks.proofs.held.Goals as goal

pub returns-then-holds_value : goal.returns-then-holds_value
returns-then-holds_value c = c.value.ensures ∙ value_is_kept c.requires (sym c.if-holds_value.ensures)
