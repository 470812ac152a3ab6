use Rattle.std.proofs.Common.{◌<◌, get_or, None, Err, sym, ap, ◌∙◌, subst, arith, rules}
use Rattle.base.specs.declared.refusal.Place.TheVariants.{Test}
use Rattle.tableau.specs.Cuts.{cut_of, cut_row, is_constant}
use Rattle.tableau.specs.Tables.{no_row}
use Rattle.solver.specs.Bounds.{ConstForm}
use Rattle.solver.specs.Rules.{cut}
use Rattle.solver.specs.Runs.{next}
use Rattle.solver.specs.Ties.{limits, test_of}
use Rattle.solver.proofs.Constants.{const-at, const-cut, const-cut-row}
use Rattle.solver.proofs.Cutting.{barred-is, cut-many}
use Rattle.solver.proofs.Testing.{tested-is}
use Rattle.solver.proofs.test.cut_plain.Goals as goal

pub returns-then-cuts-ge-CUTS : goal.returns-then-cuts-ge-CUTS
returns-then-cuts-ge-CUTS c =
    let t = c.args.t.now in
    let row = get_or t.rows c.args.h no_row in
    record {
      value = λ again n.
          cut-many Test again (test_of t c.args.cuts) (cut_of row) c.args.fuel n c.args.count (omega (arith, c.requires.few))
          ∙ ap Err (barred-is _ _ _ _ _ _ c.barred_by.ensures.value c.barred_by.ensures.count);
      constants = tt;
      ready = tt;
      counts = tt;
      nodes = tt;
      moved = tt;
    }

pub returns : goal.returns
returns c =
    let t = c.args.t.now in
    let row = get_or t.rows c.args.h no_row in
    let lt : c.args.h < t.count = omega (arith, c.requires.row, c.requires.ready.inside) in
    let k = const-at t.count t.rows c.args.h c.requires.constants lt in
    let e = c.cut_of-x.ensures in
    record {
      value = λ again n.
          ap (λ x. cut Test again (test_of t c.args.cuts) x (limits c.args.fuel n) c.args.count) (sym e)
          ∙ c.add_cut.ensures.value again (test_of t c.args.cuts) n (omega arith) (ap is_constant e ∙ const-cut row k)
          ∙ ap (λ o. next o again (limits c.args.fuel n)) (tested-is t c.add_cut.new.t c.args.cuts c.add_cut.result);
      constants = c.add_cut.ensures.constants c.requires.constants (subst (λ x. ConstForm (cut_row x None)) (sym e) (const-cut-row row k));
      ready = search rules;
      counts = search rules;
      nodes = search rules;
      moved = search rules;
    }
