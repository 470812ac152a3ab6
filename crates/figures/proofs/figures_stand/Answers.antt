use Rattle.std.proofs.Common.{refl}
use Rattle.solver.specs.Computing.{computing}
use Rattle.figures.proofs.figures_stand.Goals as goal

pub returns : goal.returns
unfolding computing
returns c = record { stand = (refl, (refl, (refl, (refl, ((refl, refl), ((refl, refl), (refl, (refl, (refl, (refl, (refl, (refl, (refl, (refl, tt)))))))))))))); count = refl }
