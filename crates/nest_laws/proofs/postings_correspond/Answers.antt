use Rattle.nest.specs.Acts.{nest_of}
use Rattle.nest.proofs.Shapes.{shaped_of}
use Rattle.nest_laws.proofs.Latest.{postings-correspond}
use Rattle.nest_laws.proofs.postings_correspond.Goals as goal

pub returns : goal.returns
returns c = record { law = postings-correspond (nest_of c.args.nest.now) (shaped_of c.args.nest.now) }
