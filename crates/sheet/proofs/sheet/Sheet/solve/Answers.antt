use Rattle.std.proofs.Common.{ap₂, sym, subst, w64}
use Rattle.std.proofs.lemmas.Int.{to_z-of_z}
use Rattle.sheet.specs.Events.{solve_of}
use Rattle.sheet.specs.Laws.{NextSolve}
use Rattle.sheet.proofs.sheet.Sheet.solve.Goals as goal

pub returns-clause-right : goal.returns-clause-right
returns-clause-right g c =
    let S = g.S.Source.meaning c.args.source.now in
    let a = c.solve_counted-answer in
    let fit = to_z-of_z w64 c.args.fuel c.ranges.fuel in
    subst (NextSolve c.args.self.now) (ap₂ (λ f r. solve_of S f c.args.work.now r a.new.work) fit (sym c.uncounted.ensures)) a.ensures.right
