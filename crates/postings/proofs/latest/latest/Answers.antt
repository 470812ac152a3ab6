use Rattle.nest.specs.Acts.{nest_of}
use Rattle.nest.proofs.Shapes.{shaped_of}
use Rattle.postings.proofs.Asked.{latest-right}
use Rattle.postings.proofs.latest.latest.Goals as goal

pub returns-clause-law : goal.returns-clause-law
returns-clause-law g c =
    latest-right c.args.sheet.now (nest_of c.args.nest.now) (shaped_of c.args.nest.now) c.args.point.now c.ask.result c.ask.new.counters c.ask.ensures.answer c.ask.ensures.left
