use Rattle.std.proofs.Common.{[], ◌∷◌, length, get_or, Err, sym, refl, ap, ◌∙◌, arith}
use Rattle.base.specs.declared.refusal.Place.TheVariants.{Node}
use Rattle.tableau.specs.Cuts.{cut_of, is_constant}
use Rattle.tableau.specs.Tables.{no_row}
use Rattle.solver.specs.Rules.{cut}
use Rattle.solver.specs.Ties.{limits, work_of}
use Rattle.solver.proofs.Cutting.{barred-is, cut-fifth, cut-many}
use Rattle.solver.proofs.Settling.{noted-none}
use Rattle.solver.proofs.settle.cut_row.Goals as goal

pub returns-then-state-ge-CUTS : goal.returns-then-state-ge-CUTS
returns-then-state-ge-CUTS c =
    let x = c.args.state.now in
    let row = get_or x.table.rows c.args.h no_row in
    let w = c.args.work.now in
    record {
      value = (
        [],
        tt,
        λ again.
            cut-many Node again (work_of x) (cut_of row) c.args.fuel (length w) c.args.count (omega (arith, c.requires.ready.cuts))
            ∙ ap Err (barred-is _ _ _ _ _ _ c.barred_by.ensures.value c.barred_by.ensures.count),
      );
      ready = tt;
      left = refl;
      moved = tt;
    }

pub returns-then-is_constant : goal.returns-then-is_constant
returns-then-is_constant c =
    let x = c.args.state.now in
    let w = c.args.work.now in
    record {
      value = (
        [],
        noted-none w c.args.count c.cut_constant.result c.cut_constant.ensures.nodes,
        λ again. ap (λ k. cut Node again (work_of x) k (limits c.args.fuel (length w)) c.args.count) (sym c.cut_of-x.ensures) ∙ c.cut_constant.ensures.value again (length w),
      );
      ready = c.cut_constant.ensures.ready;
      left = c.cut_constant.ensures.left;
      moved = c.cut_constant.ensures.moved;
    }

pub returns-then-state-ge-NEW : goal.returns-then-state-ge-NEW
returns-then-state-ge-NEW c =
    let x = c.args.state.now in
    let row = get_or x.table.rows c.args.h no_row in
    let w = c.args.work.now in
    record {
      value = (
        [],
        tt,
        λ again.
            cut-fifth again (work_of x) (cut_of row) c.args.fuel (length w) c.args.count (omega (arith, c.requires.ready.cuts)) (ap is_constant (sym c.cut_of-x.ensures) ∙ sym c.if-is_constant.ensures) (omega (arith, c.args.state.now.context.few_made))
            ∙ ap Err (barred-is _ _ _ _ _ _ c.barred_by-then-state-ge-NEW.ensures.value c.barred_by-then-state-ge-NEW.ensures.count),
      );
      ready = tt;
      left = refl;
      moved = tt;
    }

pub returns : goal.returns
returns c =
    let x = c.args.state.now in
    let k = c.cut_of-x.result in
    let w = c.args.work.now in
    record {
      value = (
        (k.div, k.form) ∷ [],
        c.cut_parameter.ensures.noted,
        λ again. ap (λ k. cut Node again (work_of x) k (limits c.args.fuel (length w)) c.args.count) (sym c.cut_of-x.ensures) ∙ c.cut_parameter.ensures.value again,
      );
      ready = c.cut_parameter.ensures.ready;
      left = c.cut_parameter.ensures.left;
      moved = c.cut_parameter.ensures.moved;
    }
