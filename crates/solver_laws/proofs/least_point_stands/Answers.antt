use Rattle.solver_laws.proofs.Least.{least-point}
use Rattle.solver_laws.proofs.least_point_stands.Goals as goal

pub returns : goal.returns
returns c = least-point
