use Rattle.std.proofs.Common.{None, Err, sym, refl, ap, ◌∙◌, rules}
use Rattle.std.proofs.lemmas.Result.{err_from_is_err_and, IfOk-from_err}
use Rattle.base.specs.declared.refusal.Place.TheVariants.{Node}
use Rattle.tableau.specs.Cuts.{cut_row, numbers}
use Rattle.solver.specs.Bounds.{in_force}
use Rattle.solver.specs.Ends.{worked}
use Rattle.solver.specs.Rules.{with_row}
use Rattle.solver.specs.Runs.{next}
use Rattle.solver.specs.Ties.{limits, work_of}
use Rattle.solver.proofs.Cutting.{cut-plain, once_ticked}
use Rattle.solver.proofs.Settling.{worked-new}
use Rattle.solver.proofs.settle.cut_constant.Goals as goal

pub returns-in_err-next : goal.returns-in_err-next
returns-in_err-next c =
    let x = c.args.state.now in
    let k = numbers c.args.x.now in
    let p = err_from_is_err_and c.from_residual.result c.from_residual.ensures.1 in
    record {
      value = λ again n.
          cut-plain Node again (work_of x) k c.args.fuel n c.args.count c.requires.few c.requires.constant
          ∙ ap (λ o. once_ticked o (with_row Node again (work_of x) (in_force x.context) x.context.made (cut_row k None) (limits c.args.fuel n))) (sym c.tick.ensures.value ∙ c.in_err-next.was)
          ∙ sym (ap (λ r. next (worked x r) again (limits c.args.fuel n)) (p.1 ∙ ap Err p.2));
      ready = IfOk-from_err _ _ c.from_residual.ensures.0;
      left = refl;
      nodes = IfOk-from_err _ _ c.from_residual.ensures.0;
      moved = IfOk-from_err _ _ c.from_residual.ensures.0;
    }

pub returns : goal.returns
returns c =
    let x = c.args.state.now in
    let k = numbers c.args.x.now in
    record {
      value = λ again n.
          cut-plain Node again (work_of x) k c.args.fuel n c.args.count c.requires.few c.requires.constant
          ∙ ap (λ o. once_ticked o (with_row Node again (work_of x) (in_force x.context) x.context.made (cut_row k None) (limits c.args.fuel n))) (sym c.in_ok-next.ensures.value)
          ∙ ap (λ r. with_row Node again (work_of x) (in_force x.context) x.context.made r (limits c.args.fuel n) c.in_ok-next.next) (sym c.row.ensures.value)
          ∙ c.add_row.ensures.value again (work_of x) (in_force x.context) x.context.made n
          ∙ ap (λ o. next o again (limits c.args.fuel n)) (worked-new x x c.add_row.new.t c.add_row.result refl refl);
      ready = search rules;
      left = refl;
      nodes = search rules;
      moved = search rules;
    }
