use Rattle.std.proofs.Common.{length}
use Rattle.page.proofs.check.Below.+node.Given as goal

abbrev pub decreases-node : goal.decreases-node
decreases-node l = length l.rest.now
