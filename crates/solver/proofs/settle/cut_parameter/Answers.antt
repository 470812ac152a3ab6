use Rattle.std.proofs.Common.{[], ◌∷◌, length, Err, sym, refl, ap, ◌∙◌, subst, rules}
use Rattle.std.proofs.lemmas.Result.{err_from_is_err_and, IfOk-from_err}
use Rattle.base.specs.declared.refusal.Place.TheVariants.{Node}
use Rattle.tableau.specs.Cuts.{numbers}
use Rattle.solver.specs.Bounds.{in_force}
use Rattle.solver.specs.Ends.{Noted, below_new, worked}
use Rattle.solver.specs.Rules.{with_row}
use Rattle.solver.specs.Runs.{next}
use Rattle.solver.specs.Ties.{limits, with_table, work_of}
use Rattle.solver.proofs.Cutting.{new-refused, new_row, new-spent}
use Rattle.solver.proofs.Settling.{noted_one, worked-new}
use Rattle.solver.proofs.settle.cut_parameter.Goals as goal

pub returns-in_err-next : goal.returns-in_err-next
returns-in_err-next c =
    let x = c.args.state.now in
    let k = numbers c.args.x.now in
    let w = c.args.work.now in
    let p = err_from_is_err_and c.from_residual.result c.from_residual.ensures.1 in
    let e = p.1 ∙ ap Err p.2 in
    record {
      value = λ again. new-spent again x k c.args.fuel w c.args.count c.requires.few c.requires.named c.requires.new c.in_err-next.field-0.0 (sym c.tick.ensures.value ∙ c.in_err-next.was) ∙ sym (ap (λ r. below_new k.div k.form (next (worked x r) again (limits c.args.fuel (length w)))) e);
      noted = subst (Noted w c.args.count ((k.div, k.form) ∷ []) w) (sym e) tt;
      ready = IfOk-from_err _ _ c.from_residual.ensures.0;
      left = refl;
      moved = IfOk-from_err _ _ c.from_residual.ensures.0;
    }

pub returns-in_err-next-2 : goal.returns-in_err-next-2
returns-in_err-next-2 c =
    let x = c.args.state.now in
    let k = numbers c.args.x.now in
    let w = c.args.work.now in
    let y = c.make_parameter.new.state in
    let p = err_from_is_err_and c.from_residual-in_err-next-2.result c.from_residual-in_err-next-2.ensures.1 in
    let e = p.1 ∙ ap Err p.2 in
    record {
      value = λ again. new-refused again x k c.args.fuel w c.args.count c.requires.few c.requires.named c.requires.new c.in_ok-next.next (sym c.in_ok-next.ensures.value) y c.make_parameter.new.work c.in_err-next-2.field-0.0 c.in_err-next-2.ensures.value ∙ sym (ap (λ r. below_new k.div k.form (next (worked y r) again (limits c.args.fuel (length w)))) e);
      noted = subst (Noted w c.args.count ((k.div, k.form) ∷ []) c.make_parameter.new.work) (sym e) tt;
      ready = IfOk-from_err _ _ c.from_residual-in_err-next-2.ensures.0;
      left = c.make_parameter.ensures.counts.1;
      moved = IfOk-from_err _ _ c.from_residual-in_err-next-2.ensures.0;
    }

pub returns : goal.returns
returns c =
    let x = c.args.state.now in
    let k = numbers c.args.x.now in
    let w = c.args.work.now in
    let y = c.make_parameter.new.state in
    let q = c.in_ok-next-2.ensures in
    let m = q.value in
    let f = c.in_ok-next-2.next in
    record {
      value = λ again.
          new_row again x k c.args.fuel w c.args.count c.requires.few c.requires.named c.requires.new c.in_ok-next.next (sym c.in_ok-next.ensures.value) y c.make_parameter.new.work f m
          ∙ ap (below_new k.div k.form)
          (ap (λ r. with_row Node again (work_of x) (in_force y.context) y.context.made r (limits c.args.fuel (length w)) f) (sym c.row.ensures.value)
          ∙ ap (λ t. with_row Node again (with_table t (work_of x)) (in_force y.context) y.context.made c.row.result (limits c.args.fuel (length w)) f) (sym q.table)
          ∙ c.add_row.ensures.value again (work_of x) (in_force y.context) y.context.made (length w)
          ∙ ap (λ o. next o again (limits c.args.fuel (length w))) (worked-new x y c.add_row.new.t c.add_row.result m.3 q.counts.0));
      noted = noted_one w c.make_parameter.new.work c.args.count c.in_ok-next.next f k.div k.form c.add_row.result m.0 c.in_ok-next.ensures.nodes m.5 c.add_row.ensures.nodes;
      ready = search rules;
      left = q.counts.1;
      moved = search rules;
    }
