use Rattle.solver_laws.proofs.Fuel.{fuel-law}
use Rattle.solver_laws.proofs.fuel_law_stands.Goals as goal

pub returns : goal.returns
returns c = fuel-law
