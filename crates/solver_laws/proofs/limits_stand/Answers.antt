use Rattle.solver_laws.proofs.Limits.{tree-limits}
use Rattle.solver_laws.proofs.limits_stand.Goals as goal

pub returns : goal.returns
returns c = tree-limits
