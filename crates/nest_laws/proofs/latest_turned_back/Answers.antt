use Rattle.nest.specs.Acts.{nest_of}
use Rattle.nest.proofs.Shapes.{shaped_of}
use Rattle.nest_laws.proofs.Backs.{latest-turned-back}
use Rattle.nest_laws.proofs.latest_turned_back.Goals as goal

pub returns : goal.returns
returns c = record { law = latest-turned-back (nest_of c.args.nest.now) (shaped_of c.args.nest.now) }
