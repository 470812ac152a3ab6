use Rattle.std.proofs.Common.{◌≡◌, length, Ok, sym, ap, ◌∙◌, subst, w64, to_z, of_z, rules}
use Rattle.std.proofs.lemmas.Int.{to_z-of_z}
use Rattle.tree.specs.declared.node.Node.TheVariants.{None as Blank}
use Rattle.solver.specs.Solves.{counted_answer, solved, work_after, written}
use Rattle.solver.specs.Ties.{Wrote}
use Rattle.solver.proofs.Running.{root-left}
use Rattle.solver.proofs.run.solve_counted.Goals as goal

pub returns-in-Ok : goal.returns-in-Ok
returns-in-Ok g c =
    let S = g.S.Source.meaning c.args.source.now in
    let w = c.args.work.now in
    let b = c.blank.new.work in
    let z = c.read_and_run.new.work in
    let q = c.in-Ok.ensures.value in
    let long : length b ≡ length w = search rules in
    let fit = to_z-of_z w64 c.args.fuel c.ranges.fuel in
    let e : solved S c.args.fuel (length w) ≡ Ok (q.0, c.in-Ok.count) =
    ap (λ f. solved S f (length w)) (sym fit) ∙ ap (λ n. solved S (to_z w64 (of_z w64 c.args.fuel)) n) (sym long) ∙ q.1 in
    record {
      answer = sym (ap counted_answer e);
      left = root-left Blank (length w) (written S q.0) z (subst (λ a. Wrote a 0 (written S q.0) z) c.blank.ensures.left q.2) ∙ sym (ap (work_after S (length w)) e);
    }
