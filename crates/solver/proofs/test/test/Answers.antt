use Rattle.std.proofs.Common.{suc, ◌+◌, map, Ok, Err, sym, refl, ap, ◌∙◌, subst, add-one, arith}
use Rattle.std.proofs.lemmas.Result.{err_from_is_err_and, IfOk-from_err}
use Rattle.base.specs.Numbers.{quot_by}
use Rattle.tableau.specs.Tables.{top}
use Rattle.tree.specs.Trees.{leaf, none}
use Rattle.solver.specs.Bounds.{AllConst, in_force}
use Rattle.solver.specs.Rules.{settle, testing}
use Rattle.solver.specs.Runs.{next, return}
use Rattle.solver.specs.Ties.{limits, moved, test_of, tested}
use Rattle.solver.proofs.Constants.{const-join, const-tests, const-units}
use Rattle.solver.proofs.Testing.{cut_on, gas-less, leaf-on, none-on, test-begins, test-from, turn_on}
use Rattle.solver.proofs.test.test.Goals as goal

pub loop-i-init : goal.loop-i-init
loop-i-init c =
    let x = c.args.ctx.now in
    let t = c.test_table-t.result in
    let q = c.test_table-t.ensures in (
      q.ready,
      omega arith,
      omega (arith, q.counts.0, x.room, x.few, x.few_made),
      record { more = omega arith; within = c.requires.within },
      subst AllConst (sym q.rows) (const-join _ _ (const-units 0 (x.parameters + x.made)) (const-tests x.parameters x.made (in_force x))),
      (100_001, omega (arith, c.requires.fuel), λ n. ap (λ w. settle testing 100_001 w (limits c.args.fuel n) c.args.start) (test-begins x t q.counts.1 q.ready.inside q.rows)),
      refl,
    )

pub returns-in_err-count-in-Some-pivot_place : goal.returns-in_err-count-in-Some-pivot_place
returns-in_err-count-in-Some-pivot_place c =
    let x = c.args.ctx.now in
    let t = c.loop-i.t in
    let i = c.loop-i.invariant in
    let g = gas-less i.5.0 c.args.fuel c.loop-i.count.steps i.5.1 i.3.within in
    let p = err_from_is_err_and c.from_residual.result c.from_residual.ensures.1 in
    let e = c.in_err-count-in-Some-pivot_place.field-0.0 in
    record {
      value = λ n.
          test-from x.parameters x.made (in_force x) (limits c.args.fuel n) c.args.start (Err e)
          (sym (turn_on i.5.0 t c.loop-i.cuts i.0.inside (limits c.args.fuel n) c.loop-i.count g.0 g.1 c.in-Some.i c.in-Some.ensures.inside c.in-Some.ensures.value c.in-Some-pivot_place.spot c.in-Some-pivot_place.ensures.value (Err e)
          (c.turn.ensures.value (test_of t c.loop-i.cuts) n ∙ ap (moved c.turn.new.t (test_of t c.loop-i.cuts)) c.in_err-count-in-Some-pivot_place.was))
          ∙ i.5.2 n)
          ∙ sym (p.1 ∙ ap Err p.2);
      nodes = IfOk-from_err _ _ c.from_residual.ensures.0;
      stepped = IfOk-from_err _ _ c.from_residual.ensures.0;
    }

pub loop-i-preserved-in-Some-pivot_place : goal.loop-i-preserved-in-Some-pivot_place
loop-i-preserved-in-Some-pivot_place c =
    let x = c.args.ctx.now in
    let t = c.loop-i.t in
    let i = c.loop-i.invariant in
    let g = gas-less i.5.0 c.args.fuel c.loop-i.count.steps i.5.1 i.3.within in
    let q = c.in_ok-count-in-Some-pivot_place.ensures in (
      q.ready,
      i.1,
      omega (arith, q.counts.0, i.2),
      record { more = omega (arith, i.3.more, q.moved.more); within = q.moved.within },
      q.constants i.4,
      (
        g.0,
        omega (arith, g.1, i.5.1, q.moved.more),
        λ n.
            sym (turn_on i.5.0 t c.loop-i.cuts i.0.inside (limits c.args.fuel n) c.loop-i.count g.0 g.1 c.in-Some.i c.in-Some.ensures.inside c.in-Some.ensures.value c.in-Some-pivot_place.spot c.in-Some-pivot_place.ensures.value
            (Ok (test_of c.turn.new.t c.loop-i.cuts, c.in_ok-count-in-Some-pivot_place.count)) (q.value (test_of t c.loop-i.cuts) n))
            ∙ i.5.2 n,
      ),
      q.nodes ∙ i.6,
    )

pub returns-in-None : goal.returns-in-None
unfolding return
returns-in-None c =
    let x = c.args.ctx.now in
    let t = c.loop-i.t in
    let i = c.loop-i.invariant in
    let g = gas-less i.5.0 c.args.fuel c.loop-i.count.steps i.5.1 i.3.within in
    record {
      value = λ n.
          test-from x.parameters x.made (in_force x) (limits c.args.fuel n) c.args.start (Ok (none, c.loop-i.count))
          (sym (none-on i.5.0 t c.loop-i.cuts i.0.inside (limits c.args.fuel n) c.loop-i.count g.0 g.1 c.in-Some.i c.in-Some.ensures.inside c.in-Some.ensures.value c.in-None.ensures.value) ∙ i.5.2 n);
      nodes = i.6;
      stepped = i.3;
    }

pub returns-in_err-count-in-Some-first_fraction : goal.returns-in_err-count-in-Some-first_fraction
returns-in_err-count-in-Some-first_fraction c =
    let x = c.args.ctx.now in
    let t = c.loop-i.t in
    let i = c.loop-i.invariant in
    let g = gas-less i.5.0 c.args.fuel c.loop-i.count.steps i.5.1 i.3.within in
    let p = err_from_is_err_and c.from_residual-in_err-count-in-Some-first_fraction.result c.from_residual-in_err-count-in-Some-first_fraction.ensures.1 in
    let e = c.in_err-count-in-Some-first_fraction.field-0.0 in
    record {
      value = λ n.
          test-from x.parameters x.made (in_force x) (limits c.args.fuel n) c.args.start (Err e)
          (sym (cut_on i.5.0 t c.loop-i.cuts i.0.inside (limits c.args.fuel n) c.loop-i.count g.0 g.1 c.in_default.ensures.value c.in-Some-first_fraction.h c.in-Some-first_fraction.ensures.inside c.in-Some-first_fraction.ensures.value (Err e)
          (c.cut_plain.ensures.value (settle testing g.0) n ∙ ap (λ r. next (tested c.cut_plain.new.t (suc c.loop-i.cuts) r) (settle testing g.0) (limits c.args.fuel n)) c.in_err-count-in-Some-first_fraction.was))
          ∙ i.5.2 n)
          ∙ sym (p.1 ∙ ap Err p.2);
      nodes = IfOk-from_err _ _ c.from_residual-in_err-count-in-Some-first_fraction.ensures.0;
      stepped = IfOk-from_err _ _ c.from_residual-in_err-count-in-Some-first_fraction.ensures.0;
    }

pub returns-in-None-first_fraction : goal.returns-in-None-first_fraction
unfolding return
returns-in-None-first_fraction c =
    let x = c.args.ctx.now in
    let t = c.loop-i.t in
    let i = c.loop-i.invariant in
    let g = gas-less i.5.0 c.args.fuel c.loop-i.count.steps i.5.1 i.3.within in
    record {
      value = λ n.
          test-from x.parameters x.made (in_force x) (limits c.args.fuel n) c.args.start (Ok (leaf (map (λ r. map (quot_by r.div) r.form) (top t)), c.loop-i.count))
          (sym (leaf-on i.5.0 t c.loop-i.cuts i.0.inside (limits c.args.fuel n) c.loop-i.count g.0 g.1 c.in_default.ensures.value c.in-None-first_fraction.ensures.value) ∙ i.5.2 n);
      nodes = i.6;
      stepped = i.3;
    }

pub loop-i-preserved : goal.loop-i-preserved
loop-i-preserved c =
    let x = c.args.ctx.now in
    let t = c.loop-i.t in
    let i = c.loop-i.invariant in
    let g = gas-less i.5.0 c.args.fuel c.loop-i.count.steps i.5.1 i.3.within in
    let q = c.in_ok-count-in-Some-first_fraction.ensures in
    let u = c.cut_plain.new.t in (
      q.ready,
      omega (arith, q.counts.0),
      omega (arith, q.counts.1, i.2),
      record { more = omega (arith, i.3.more, q.moved.more); within = q.moved.within },
      q.constants,
      (
        g.0,
        omega (arith, g.1, i.5.1, q.moved.more),
        λ n.
            ap (λ k. settle testing g.0 (test_of u k) (limits c.args.fuel n) c.in_ok-count-in-Some-first_fraction.count) (add-one c.loop-i.cuts)
            ∙ sym (cut_on i.5.0 t c.loop-i.cuts i.0.inside (limits c.args.fuel n) c.loop-i.count g.0 g.1 c.in_default.ensures.value c.in-Some-first_fraction.h c.in-Some-first_fraction.ensures.inside c.in-Some-first_fraction.ensures.value
            (Ok (test_of u (suc c.loop-i.cuts), c.in_ok-count-in-Some-first_fraction.count)) (q.value (settle testing g.0) n))
            ∙ i.5.2 n,
      ),
      q.nodes ∙ i.6,
    )
