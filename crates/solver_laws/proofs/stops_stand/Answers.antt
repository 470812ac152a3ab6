use Rattle.solver_laws.proofs.Stops.{stops-told}
use Rattle.solver_laws.proofs.stops_stand.Goals as goal

pub returns : goal.returns
returns c = stops-told
