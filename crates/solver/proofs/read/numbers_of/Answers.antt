use Rattle.std.proofs.Common.{rules}
use Rattle.solver.proofs.read.numbers_of.Goals as goal

pub returns : goal.returns
returns g c = search rules
