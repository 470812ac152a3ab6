use Rattle.std.proofs.Common.{None, Err, sym, ap, ◌∙◌, subst, rules}
use Rattle.std.proofs.lemmas.Result.{err_from_is_err_and, IfOk-from_err}
use Rattle.tableau.specs.Cuts.{cut_row, numbers}
use Rattle.solver.specs.Bounds.{ConstForm}
use Rattle.solver.specs.Rules.{with_row}
use Rattle.solver.specs.Runs.{next}
use Rattle.solver.specs.Ties.{after_cut, limits, moved, with_table}
use Rattle.solver.proofs.Cutting.{cut-plain, once_ticked}
use Rattle.solver.proofs.turn.add_cut.Goals as goal

pub returns-in_err-next : goal.returns-in_err-next
returns-in_err-next c =
    let t = c.args.t.now in
    let x = numbers c.args.x.now in
    let p = err_from_is_err_and c.from_residual.result c.from_residual.ensures.1 in
    record {
      value = λ again s n few k.
          cut-plain c.args.place again (with_table t s) x c.args.fuel n c.args.count few k
          ∙ ap (λ o. once_ticked o (with_row c.args.place again (with_table t s) s.context s.made (cut_row x None) (limits c.args.fuel n))) (sym c.tick.ensures.value ∙ c.in_err-next.was)
          ∙ sym (ap (λ r. next (moved t (after_cut s s.context s.made) r) again (limits c.args.fuel n)) (p.1 ∙ ap Err p.2));
      constants = λ _ _. IfOk-from_err _ _ c.from_residual.ensures.0;
      ready = IfOk-from_err _ _ c.from_residual.ensures.0;
      counts = IfOk-from_err _ _ c.from_residual.ensures.0;
      nodes = IfOk-from_err _ _ c.from_residual.ensures.0;
      moved = IfOk-from_err _ _ c.from_residual.ensures.0;
    }

pub returns : goal.returns
returns c =
    let t = c.args.t.now in
    let x = numbers c.args.x.now in
    record {
      value = λ again s n few k.
          cut-plain c.args.place again (with_table t s) x c.args.fuel n c.args.count few k
          ∙ ap (λ o. once_ticked o (with_row c.args.place again (with_table t s) s.context s.made (cut_row x None) (limits c.args.fuel n))) (sym c.in_ok-next.ensures.value)
          ∙ ap (λ r. with_row c.args.place again (with_table t s) s.context s.made r (limits c.args.fuel n) c.in_ok-next.next) (sym c.row.ensures.value)
          ∙ c.add_row.ensures.value again s s.context s.made n;
      constants = λ a f. c.add_row.ensures.constants a (subst ConstForm (sym c.row.ensures.value) f);
      ready = search rules;
      counts = search rules;
      nodes = search rules;
      moved = search rules;
    }
