use Rattle.expressions.proofs.scanning.+nodes.Given as goal

-- the nodes left
abbrev pub decreases-nodes : goal.decreases-nodes
decreases-nodes l = l.left
