use Rattle.std.proofs.Common.{◌+◌, ◌*◌}
use Rattle.solver.proofs.node.+node_split.Given as goal

abbrev pub decreases-node : goal.decreases-node
decreases-node l = 2 * l.state.now.left + 1

abbrev pub decreases-split : goal.decreases-split
decreases-split l = 2 * l.state.now.left
