use Rattle.std.proofs.Common.{length, sym, refl, ap, ◌∙◌, subst, w64, SFits, rules}
use Rattle.std.proofs.lemmas.Int.{to_z-of_z}
use Rattle.solver.specs.Solves.{solve_answer, work_after}
use Rattle.sheet.specs.Sheets.{replaced, solved_here}
use Rattle.sheet.specs.declared.call.Answer.TheVariants.{Solved, Found, Wiped}
use Rattle.sheet.specs.Events.{find, solve, wipe}
use Rattle.sheet.specs.Logs.{Logs}
use Rattle.sheet.proofs.run.make.Goals as goal

pub returns-in-Solve : goal.returns-in-Solve
returns-in-Solve g c =
    let m = c.args.sheet.now in
    let i = c.in-Solve in
    let S = g.S.Source.meaning i.source in
    let n = length c.args.work.now in
    let h = c.solve.ensures in
    let f : SFits w64 i.fuel = search rules in
    let fit = to_z-of_z w64 i.fuel f in
    let e = solve (record { system = S; room = n; fuel = i.fuel; answer = c.solve.result; work = c.solve.new.work }) in
    record {
      reached = h.reached;
      made = (
        e,
        subst (λ call. Logs g.S.Source.meaning n call (Solved c.solve.result) e) (sym i.is) (c.solve.new.work, refl),
        (h.answer ∙ ap (λ k. solve_answer (solved_here m S k n)) fit, h.work ∙ ap (λ k. work_after S n (solved_here m S k n)) fit),
        h.left ∙ ap (λ k. replaced m S (solved_here m S k n)) fit,
        refl,
      );
    }

pub returns-in-Find : goal.returns-in-Find
returns-in-Find g c =
    let e = find (record { point = c.deref.result.now; answer = c.find-said.result; place = c.find-said.new.place }) in
    record { reached = c.find-said.ensures.reached; made = (e, subst (λ call. Logs g.S.Source.meaning (length c.args.work.now) call (Found c.find-said.result c.find-said.new.place) e) (sym c.in-Find.is) (ap (λ p. find (record { point = p; answer = c.find-said.result; place = c.find-said.new.place })) c.deref.ensures.value), (c.find-said.ensures.answer, c.find-said.ensures.left), refl, refl) }

pub returns-in-Wipe : goal.returns-in-Wipe
returns-in-Wipe g c =
    let e = wipe c.wipe.result in
    record { reached = c.wipe.ensures.reached; made = (e, subst (λ call. Logs g.S.Source.meaning (length c.args.work.now) call (Wiped c.wipe.result) e) (sym c.in-Wipe.is) refl, c.wipe.ensures.answer, c.wipe.ensures.left, refl) }
