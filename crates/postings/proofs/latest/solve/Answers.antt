use Rattle.nest.specs.Acts.{nest_of}
use Rattle.std.proofs.Common.{length}
use Rattle.postings.proofs.Standing.{solved-stands}
use Rattle.postings.proofs.latest.solve.Goals as goal

pub returns-clause-stands : goal.returns-clause-stands
returns-clause-stands g c =
    solved-stands c.args.sheet.now (nest_of c.args.nest.now) _ (length c.args.work.now) c.solve.result c.solve.new.work c.solve.new.self
    c.solve.ensures.answer c.solve.ensures.work c.solve.ensures.left
