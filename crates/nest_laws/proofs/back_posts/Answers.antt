use Rattle.nest.specs.Acts.{nest_of}
use Rattle.nest.proofs.Shapes.{shaped_of}
use Rattle.nest_laws.proofs.Backs.{back-posts}
use Rattle.nest_laws.proofs.back_posts.Goals as goal

pub returns : goal.returns
returns c = record { law = back-posts (nest_of c.args.nest.now) (shaped_of c.args.nest.now) }
