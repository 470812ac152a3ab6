use Rattle.solver_laws.proofs.Counted.{nodes-counted}
use Rattle.solver_laws.proofs.node_count_stands.Goals as goal

pub returns : goal.returns
returns c = nodes-counted
