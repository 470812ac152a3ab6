use Rattle.std.proofs.Common.{Err, sym, refl, ap, ◌∙◌, subst, inl, arith}
use Rattle.std.proofs.lemmas.Result.{err_from_is_err_and, IfOk-from_err}
use Rattle.std.proofs.lemmas.Int.{ints}
use Rattle.tableau.specs.Cuts.{numbers}
use Rattle.tableau.proofs.CutRanges.{sound}
use Rattle.solver.specs.Ends.{NewMade}
use Rattle.solver.proofs.settle.make_parameter.Goals as goal

pub overflow_cast-by : goal.overflow_cast-by
overflow_cast-by c = let s = sound c.args.by.now in omega (arith, ints, s.below, s.form_low 0, s.form_high 0)

pub returns-in_err-count : goal.returns-in_err-count
returns-in_err-count c =
    let p = err_from_is_err_and c.from_residual.result c.from_residual.ensures.1 in
    let x = c.args.state.now in
    record {
      value = subst (NewMade x (numbers c.args.by.now) c.args.work.now c.args.count x c.write.new.work) (sym (p.1 ∙ ap Err p.2)) (inl c.in_err-count.ensures.value);
      ready = IfOk-from_err _ _ c.from_residual.ensures.0;
      table = refl;
      counts = (refl, refl);
      steps = IfOk-from_err _ _ c.from_residual.ensures.0;
    }
