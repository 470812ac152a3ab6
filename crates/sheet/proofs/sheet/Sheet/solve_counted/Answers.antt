use Rattle.std.proofs.Common.{length, ap, ap₂, ◌∙◌, w64}
use Rattle.std.proofs.lemmas.Int.{to_z-of_z}
use Rattle.solver.specs.Solves.{counted_answer, work_after}
use Rattle.sheet.specs.Sheets.{replaced, solved_here, uncounted}
use Rattle.sheet.specs.Events.{solve}
use Rattle.sheet.proofs.Paging.{page-counted}
use Rattle.sheet.proofs.Solving.{told, uncounted-answer}
use Rattle.sheet.proofs.Arranged.{next, next-solve, reach}
use Rattle.sheet.proofs.sheet.Sheet.solve_counted.Goals as goal

pub invariant_of-self : goal.invariant_of-self
invariant_of-self g c =
    let m = g.T.Store.meaning c.self.inside.store in
    let S = g.S.Source.meaning c.args.source.now in
    let n = length c.args.work.now in
    let fit = to_z-of_z w64 c.args.fuel c.ranges.fuel in
    let h = c.solve_on.ensures in
    reach m (solve (record { system = S; room = n; fuel = c.args.fuel; answer = uncounted c.solve_on.result; work = c.solve_on.new.work })) _
    (ap uncounted (h.answer ∙ ap (λ f. counted_answer (solved_here m S f n)) fit) ∙ uncounted-answer (solved_here m S c.args.fuel n), h.work ∙ ap (λ f. work_after S n (solved_here m S f n)) fit)
    (h.left ∙ ap (λ f. replaced m S (solved_here m S f n)) fit) c.self.invariant

pub returns-clause-law : goal.returns-clause-law
returns-clause-law g c =
    let S = g.S.Source.meaning c.args.source.now in
    let n = length c.args.work.now in
    let v = c.self.view_is in
    let fit = to_z-of_z w64 c.args.fuel c.ranges.fuel in
    let h = c.solve_on.ensures in
    next c.args.self.now (solve (record { system = S; room = n; fuel = c.args.fuel; answer = uncounted c.solve_on.result; work = c.solve_on.new.work })) _
    (ap uncounted (h.answer ∙ ap₂ (λ m f. counted_answer (solved_here m S f n)) v fit) ∙ uncounted-answer (solved_here c.args.self.now S c.args.fuel n), h.work ∙ ap₂ (λ m f. work_after S n (solved_here m S f n)) v fit)
    (h.left ∙ ap₂ (λ m f. replaced m S (solved_here m S f n)) v fit)

pub returns-clause-right : goal.returns-clause-right
returns-clause-right g c =
    let S = g.S.Source.meaning c.args.source.now in
    let n = length c.args.work.now in
    let v = c.self.view_is in
    let fit = to_z-of_z w64 c.args.fuel c.ranges.fuel in
    let h = c.solve_on.ensures in
    next-solve c.args.self.now (record { system = S; room = n; fuel = c.args.fuel; answer = uncounted c.solve_on.result; work = c.solve_on.new.work }) _
    (ap uncounted (h.answer ∙ ap₂ (λ m f. counted_answer (solved_here m S f n)) v fit) ∙ uncounted-answer (solved_here c.args.self.now S c.args.fuel n), h.work ∙ ap₂ (λ m f. work_after S n (solved_here m S f n)) v fit)
    (h.left ∙ ap₂ (λ m f. replaced m S (solved_here m S f n)) v fit)

pub returns-clause-reached : goal.returns-clause-reached
returns-clause-reached g c = invariant_of-self g c

pub returns-clause-told : goal.returns-clause-told
returns-clause-told g c =
    let S = g.S.Source.meaning c.args.source.now in
    let n = length c.args.work.now in
    let v = c.self.view_is in
    let fit = to_z-of_z w64 c.args.fuel c.ranges.fuel in
    told c.args.self.now S c.args.fuel n c.solve_on.result (c.solve_on.ensures.answer ∙ ap₂ (λ m f. counted_answer (solved_here m S f n)) v fit)

pub returns-clause-page : goal.returns-clause-page
returns-clause-page g c =
    let S = g.S.Source.meaning c.args.source.now in
    let n = length c.args.work.now in
    let v = c.self.view_is in
    let fit = to_z-of_z w64 c.args.fuel c.ranges.fuel in
    let h = c.solve_on.ensures in
    page-counted c.args.self.now S c.args.fuel n c.solve_on.result _
    (h.answer ∙ ap₂ (λ m f. counted_answer (solved_here m S f n)) v fit) (h.left ∙ ap₂ (λ m f. replaced m S (solved_here m S f n)) v fit)
