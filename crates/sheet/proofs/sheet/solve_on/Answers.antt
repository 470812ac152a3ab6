use Rattle.std.proofs.Common.{◌≡◌, length, replicate, Err, ap, ◌∙◌, w64, rules}
use Rattle.std.proofs.lemmas.Int.{to_z-of_z}
use Rattle.solver.specs.Solves.{counted_answer, solved, work_after}
use Rattle.tree.specs.declared.node.Node.TheVariants.{None as Blank}
use Rattle.sheet.proofs.Solving.{fits, full}
use Rattle.sheet.proofs.sheet.solve_on.Goals as goal

pub returns-in-Ok : goal.returns-in-Ok
returns-in-Ok g c =
    let m = g.T.Store.meaning c.args.store.now in
    let S = g.S.Source.meaning c.args.source.now in
    let n = length c.args.work.now in
    let fit = to_z-of_z w64 c.args.fuel c.ranges.fuel in
    let h = c.in_ok-solved.ensures in
    let k = fits m S c.args.fuel n c.in_ok-solved.solved c.solve_counted.new.work (h.answer ∙ ap (λ f. counted_answer (solved S f n)) fit) (h.left ∙ ap (λ f. work_after S n (solved S f n)) fit) c.in-Ok.field-0 c.in-Ok.ensures.answer in
    record { answer = k.0; work = k.1; left = c.in-Ok.ensures.left ∙ k.2 }

pub returns-in-Err : goal.returns-in-Err
returns-in-Err g c =
    let m = g.T.Store.meaning c.args.store.now in
    let S = g.S.Source.meaning c.args.source.now in
    let n = length c.args.work.now in
    let fit = to_z-of_z w64 c.args.fuel c.ranges.fuel in
    let h = c.in_ok-solved.ensures in
    let long : length c.solve_counted.new.work ≡ n = search rules in
    let k = full m S c.args.fuel n c.in_ok-solved.solved c.solve_counted.new.work (h.answer ∙ ap (λ f. counted_answer (solved S f n)) fit) (h.left ∙ ap (λ f. work_after S n (solved S f n)) fit) c.in-Err.refusal c.in-Err.ensures.answer in
    record { answer = ap Err c.after_run.ensures ∙ k.0; work = c.blank.ensures.left ∙ ap (λ n. replicate n Blank) long ∙ k.1; left = c.in-Err.ensures.left ∙ k.2 }
