use Rattle.nest.specs.Acts.{nest_of}
use Rattle.nest.proofs.Shapes.{shaped_of}
use Rattle.nest_laws.proofs.Fits.{nest-fits}
use Rattle.nest_laws.proofs.nest_fits.Goals as goal

pub returns : goal.returns
returns c = record { law = nest-fits (nest_of c.args.nest.now) (shaped_of c.args.nest.now) }
