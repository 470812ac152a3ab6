use Rattle.solver_laws.proofs.Inside.{within-fuel, within-room}
use Rattle.solver_laws.proofs.solve_laws_stand.Goals as goal

pub returns : goal.returns
returns c = (within-fuel, within-room)
