use Rattle.std.proofs.Common.{Ok, sym, ap, ◌∙◌}
use Rattle.tree.specs.Finds.{found_in, said_of}
use Rattle.nest.specs.Acts.{nest_of}
use Rattle.postings.specs.Latest.{left_of}
use Rattle.postings.proofs.Asked.{point-turned}
use Rattle.postings.proofs.latest.ask.Goals as goal

pub returns-in-Point-clause-answer : goal.returns-in-Point-clause-answer
returns-in-Point-clause-answer g c =
    c.turn_back.ensures.answer
    ∙ ap said_of (point-turned (nest_of c.args.nest.now) c.args.point.now c.find.new.place (found_in c.args.sheet.now.nodes c.args.point.now) (ap Ok (sym c.in-Point.is) ∙ c.in_ok-find.ensures.answer) c.find.ensures.left)

pub returns-in-Point-clause-left : goal.returns-in-Point-clause-left
returns-in-Point-clause-left g c =
    c.turn_back.ensures.left
    ∙ ap left_of (point-turned (nest_of c.args.nest.now) c.args.point.now c.find.new.place (found_in c.args.sheet.now.nodes c.args.point.now) (ap Ok (sym c.in-Point.is) ∙ c.in_ok-find.ensures.answer) c.find.ensures.left)
