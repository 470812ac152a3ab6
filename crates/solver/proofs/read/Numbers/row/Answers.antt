use Rattle.solver.proofs.Keeping.{sound-one}
use Rattle.solver.proofs.read.Numbers.row.Goals as goal

pub returns-clause-sound : goal.returns-clause-sound
returns-clause-sound c = sound-one c.coefficients.result c.form.result c.coefficients.ensures.small c.form.ensures.small
