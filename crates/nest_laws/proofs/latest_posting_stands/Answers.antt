use Rattle.nest.specs.Acts.{nest_of}
use Rattle.nest.proofs.Shapes.{shaped_of}
use Rattle.nest_laws.proofs.Latest.{latest-posting}
use Rattle.nest_laws.proofs.latest_posting_stands.Goals as goal

pub returns : goal.returns
returns c = record { law = latest-posting (nest_of c.args.nest.now) (shaped_of c.args.nest.now) }
