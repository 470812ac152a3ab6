use Rattle.std.proofs.Common.{[], ◌++◌, length, get_or, Ok, Err, sym, refl, ap, ◌∙◌, arith, rules}
use Rattle.std.proofs.lemmas.Result.{err_from_is_err_and, IfOk-from_err}
use Rattle.base.specs.declared.refusal.Place.TheVariants.{Node}
use Rattle.tableau.specs.Cuts.{cut_of}
use Rattle.tableau.specs.Tables.{no_row}
use Rattle.solver.specs.declared.settle.End.TheVariants.{Leaf, None as NoPoint, Split}
use Rattle.solver.specs.declared.state.State.{State}
use Rattle.solver.specs.Ends.{below_all, worked}
use Rattle.solver.specs.Rules.{cut, settle, solving}
use Rattle.solver.specs.Runs.{next}
use Rattle.solver.specs.Ties.{limits, moved, work_of}
use Rattle.solver.proofs.Keeping.{state-scanned, state-turned}
use Rattle.solver.proofs.Settling.{below-join, node-broken, node-cut, node-leaf, node-none, node-split, node-turn, noted-join, noted-none, noted-on, settled-end, settled-refused, work-known, work-same, work-turned}
use Rattle.solver.proofs.Testing.{gas-less}
use Rattle.solver.proofs.settle.settle.Goals as goal

pub loop-found-init : goal.loop-found-init
loop-found-init c = (
  c.requires.ready,
  refl,
  record { more = omega arith; within = c.requires.within },
  (
    [],
    noted-none c.args.work.now c.args.start (Ok c.args.start) refl,
    (100_001, omega (arith, c.requires.fuel), λ splits. refl),
  ),
  refl,
)

pub returns-in_err-found : goal.returns-in_err-found
returns-in_err-found c =
    let x = c.loop-found.state in
    let y = c.scan_rows.new.ctx in
    let i = c.loop-found.invariant in
    let n = i.3 in
    let g = gas-less n.2.0 c.args.fuel c.loop-found.count.steps n.2.1 i.2.within in
    let l = limits c.args.fuel (length c.args.work.now) in
    let p = err_from_is_err_and c.from_residual.result c.from_residual.ensures.1 in
    let z : State = record { table = x.table; context = y; cuts = x.cuts; left = x.left } in
    record {
      value = settled-refused c.args.fuel c.args.state.now c.args.work.now c.loop-found.work c.args.start n.0 z c.from_residual.result c.in_err-found.field-0.0 (p.1 ∙ ap Err p.2)
          (λ splits. n.2.2 splits ∙ ap (below_all n.0)
          (node-broken splits n.2.0 g.0 g.1 x i.0.table.inside l c.loop-found.count c.scan_rows.result (c.scan_rows.ensures.value (work_of x) (length c.args.work.now) (work-known x)) c.in_err-found.field-0.0 c.in_err-found.was));
      ready = IfOk-from_err _ _ c.from_residual.ensures.0;
      left = i.1;
      inside = IfOk-from_err _ _ c.from_residual.ensures.0;
      stepped = IfOk-from_err _ _ c.from_residual.ensures.0;
    }

pub returns-in_err-count-in-Some : goal.returns-in_err-count-in-Some
returns-in_err-count-in-Some c =
    let x = c.loop-found.state in
    let y = c.scan_rows.new.ctx in
    let i = c.loop-found.invariant in
    let n = i.3 in
    let g = gas-less n.2.0 c.args.fuel c.loop-found.count.steps n.2.1 i.2.within in
    let s = c.in_ok-found.ensures in
    let d = c.in_ok-found.next in
    let l = limits c.args.fuel (length c.args.work.now) in
    let p = err_from_is_err_and c.from_residual-in_err-count-in-Some.result c.from_residual-in_err-count-in-Some.ensures.1 in
    let z : State = record { table = c.turn.new.t; context = y; cuts = x.cuts; left = x.left } in
    record {
      value = settled-refused c.args.fuel c.args.state.now c.args.work.now c.loop-found.work c.args.start n.0 z c.from_residual-in_err-count-in-Some.result c.in_err-count-in-Some.field-0.0 (p.1 ∙ ap Err p.2)
          (λ splits. n.2.2 splits ∙ ap (below_all n.0)
          (node-turn splits n.2.0 g.0 g.1 x i.0.table.inside l c.loop-found.count c.scan_rows.result (c.scan_rows.ensures.value (work_of x) (length c.args.work.now) (work-known x)) c.in-Negative.i d (c.in_ok-found.was ∙ ap (λ f. Ok (f, d)) c.in-Negative.is) c.in-Some.at c.in-Some.ensures.value (Err c.in_err-count-in-Some.field-0.0)
          (c.turn.ensures.value (work_of x) (length c.args.work.now) ∙ ap (moved c.turn.new.t (work_of x)) c.in_err-count-in-Some.was)));
      ready = IfOk-from_err _ _ c.from_residual-in_err-count-in-Some.ensures.0;
      left = i.1;
      inside = IfOk-from_err _ _ c.from_residual-in_err-count-in-Some.ensures.0;
      stepped = IfOk-from_err _ _ c.from_residual-in_err-count-in-Some.ensures.0;
    }

pub loop-found-preserved-in-Some : goal.loop-found-preserved-in-Some
loop-found-preserved-in-Some c =
    let x = c.loop-found.state in
    let y = c.scan_rows.new.ctx in
    let i = c.loop-found.invariant in
    let n = i.3 in
    let g = gas-less n.2.0 c.args.fuel c.loop-found.count.steps n.2.1 i.2.within in
    let s = c.in_ok-found.ensures in
    let d = c.in_ok-found.next in
    let l = limits c.args.fuel (length c.args.work.now) in
    let t = c.in_ok-count-in-Some.ensures in
    let k = c.in_ok-count-in-Some.count in
    let u = c.turn.new.t in (
      state-turned x u y i.0 t.ready t.counts s.kept,
      i.1,
      record { more = omega (arith, i.2.more, s.stepped.more, t.moved.more); within = t.moved.within },
      (
        n.0,
        noted-on c.args.work.now c.loop-found.work c.args.start c.loop-found.count k n.0 n.1 (t.nodes ∙ s.nodes),
        (
          g.0,
          omega (arith, g.1, n.2.1, s.stepped.more, t.moved.more),
          λ splits. n.2.2 splits ∙ ap (below_all n.0)
              (node-turn splits n.2.0 g.0 g.1 x i.0.table.inside l c.loop-found.count c.scan_rows.result (c.scan_rows.ensures.value (work_of x) (length c.args.work.now) (work-known x)) c.in-Negative.i d (c.in_ok-found.was ∙ ap (λ f. Ok (f, d)) c.in-Negative.is) c.in-Some.at c.in-Some.ensures.value (moved u (work_of x) (Ok k)) (t.value (work_of x) (length c.args.work.now))
              ∙ ap (λ w. settle (solving splits) g.0 w l k) (sym (work-turned x y u s.kept))),
        ),
      ),
      i.4,
    )

pub returns-in-None : goal.returns-in-None
returns-in-None c =
    let x = c.loop-found.state in
    let y = c.scan_rows.new.ctx in
    let i = c.loop-found.invariant in
    let n = i.3 in
    let g = gas-less n.2.0 c.args.fuel c.loop-found.count.steps n.2.1 i.2.within in
    let s = c.in_ok-found.ensures in
    let l = limits c.args.fuel (length c.args.work.now) in
    let d = c.in_ok-found.next in
    record {
      value = settled-end c.args.fuel c.args.state.now c.args.work.now c.loop-found.work c.args.start n.0 n.2.0 x y c.loop-found.count d NoPoint n.1 s.nodes s.kept n.2.2
          (λ splits. node-none splits n.2.0 g.0 g.1 x i.0.table.inside l c.loop-found.count c.scan_rows.result (c.scan_rows.ensures.value (work_of x) (length c.args.work.now) (work-known x)) c.in-Negative.i d (c.in_ok-found.was ∙ ap (λ f. Ok (f, d)) c.in-Negative.is) c.in-None.ensures.value);
      ready = state-scanned x y i.0 s.kept;
      left = i.1;
      inside = tt;
      stepped = record { more = omega (arith, i.2.more, s.stepped.more); within = s.stepped.within };
    }

pub returns-in-Unsure : goal.returns-in-Unsure
returns-in-Unsure c =
    let x = c.loop-found.state in
    let y = c.scan_rows.new.ctx in
    let i = c.loop-found.invariant in
    let n = i.3 in
    let g = gas-less n.2.0 c.args.fuel c.loop-found.count.steps n.2.1 i.2.within in
    let s = c.in_ok-found.ensures in
    let d = c.in_ok-found.next in
    let l = limits c.args.fuel (length c.args.work.now) in
    record {
      value = settled-end c.args.fuel c.args.state.now c.args.work.now c.loop-found.work c.args.start n.0 n.2.0 x y c.loop-found.count d (Split c.in-Unsure.h) n.1 s.nodes s.kept n.2.2
          (λ splits. node-split splits n.2.0 g.0 g.1 x i.0.table.inside l c.loop-found.count c.scan_rows.result (c.scan_rows.ensures.value (work_of x) (length c.args.work.now) (work-known x)) c.in-Unsure.h d (c.in_ok-found.was ∙ ap (λ f. Ok (f, d)) c.in-Unsure.is));
      ready = state-scanned x y i.0 s.kept;
      left = i.1;
      inside = search rules;
      stepped = record { more = omega (arith, i.2.more, s.stepped.more); within = s.stepped.within };
    }

pub returns-in_err-count-in-Some-first_fraction : goal.returns-in_err-count-in-Some-first_fraction
returns-in_err-count-in-Some-first_fraction c =
    let x = c.loop-found.state in
    let y = c.scan_rows.new.ctx in
    let i = c.loop-found.invariant in
    let n = i.3 in
    let g = gas-less n.2.0 c.args.fuel c.loop-found.count.steps n.2.1 i.2.within in
    let s = c.in_ok-found.ensures in
    let d = c.in_ok-found.next in
    let l = limits c.args.fuel (length c.args.work.now) in
    let p = err_from_is_err_and c.from_residual-in_err-count-in-Some-first_fraction.result c.from_residual-in_err-count-in-Some-first_fraction.ensures.1 in
    let z : State = record { table = x.table; context = y; cuts = x.cuts; left = x.left } in
    let row = get_or x.table.rows c.in-Some-first_fraction.h no_row in
    let q = c.in_err-count-in-Some-first_fraction.ensures.value in
    record {
      value = settled-refused c.args.fuel c.args.state.now c.args.work.now c.cut_row.new.work c.args.start (n.0 ++ q.0) c.cut_row.new.state c.from_residual-in_err-count-in-Some-first_fraction.result c.in_err-count-in-Some-first_fraction.field-0.0 (p.1 ∙ ap Err p.2)
          (λ splits. n.2.2 splits ∙ ap (below_all n.0)
          (node-cut splits n.2.0 g.0 g.1 x i.0.table.inside l c.loop-found.count c.scan_rows.result (c.scan_rows.ensures.value (work_of x) (length c.args.work.now) (work-known x)) d (c.in_ok-found.was ∙ ap (λ f. Ok (f, d)) c.in-Clear.is) c.in-Some-first_fraction.h c.in-Some-first_fraction.ensures.inside c.in-Some-first_fraction.ensures.value
          ∙ ap (λ s. cut Node (settle (solving splits) g.0) s (cut_of row) l d) (sym (work-same x y s.kept))
          ∙ ap (λ n. cut Node (settle (solving splits) g.0) (work_of z) (cut_of row) (limits c.args.fuel n) d) (sym i.4)
          ∙ q.2 (settle (solving splits) g.0)
          ∙ ap (λ n. below_all q.0 (next (worked c.cut_row.new.state (Err c.in_err-count-in-Some-first_fraction.field-0.0)) (settle (solving splits) g.0) (limits c.args.fuel n))) i.4)
          ∙ below-join n.0 q.0 _);
      ready = IfOk-from_err _ _ c.from_residual-in_err-count-in-Some-first_fraction.ensures.0;
      left = c.cut_row.ensures.left ∙ i.1;
      inside = IfOk-from_err _ _ c.from_residual-in_err-count-in-Some-first_fraction.ensures.0;
      stepped = IfOk-from_err _ _ c.from_residual-in_err-count-in-Some-first_fraction.ensures.0;
    }

pub returns-in-None-first_fraction : goal.returns-in-None-first_fraction
returns-in-None-first_fraction c =
    let x = c.loop-found.state in
    let y = c.scan_rows.new.ctx in
    let i = c.loop-found.invariant in
    let n = i.3 in
    let g = gas-less n.2.0 c.args.fuel c.loop-found.count.steps n.2.1 i.2.within in
    let s = c.in_ok-found.ensures in
    let d = c.in_ok-found.next in
    let l = limits c.args.fuel (length c.args.work.now) in
    record {
      value = settled-end c.args.fuel c.args.state.now c.args.work.now c.loop-found.work c.args.start n.0 n.2.0 x y c.loop-found.count d Leaf n.1 s.nodes s.kept n.2.2
          (λ splits. node-leaf splits n.2.0 g.0 g.1 x i.0.table.inside l c.loop-found.count c.scan_rows.result (c.scan_rows.ensures.value (work_of x) (length c.args.work.now) (work-known x)) d (c.in_ok-found.was ∙ ap (λ f. Ok (f, d)) c.in-Clear.is) c.in-None-first_fraction.ensures.value);
      ready = state-scanned x y i.0 s.kept;
      left = i.1;
      inside = tt;
      stepped = record { more = omega (arith, i.2.more, s.stepped.more); within = s.stepped.within };
    }

pub loop-found-preserved : goal.loop-found-preserved
loop-found-preserved c =
    let x = c.loop-found.state in
    let y = c.scan_rows.new.ctx in
    let i = c.loop-found.invariant in
    let n = i.3 in
    let g = gas-less n.2.0 c.args.fuel c.loop-found.count.steps n.2.1 i.2.within in
    let s = c.in_ok-found.ensures in
    let d = c.in_ok-found.next in
    let l = limits c.args.fuel (length c.args.work.now) in
    let z : State = record { table = x.table; context = y; cuts = x.cuts; left = x.left } in
    let row = get_or x.table.rows c.in-Some-first_fraction.h no_row in
    let t = c.in_ok-count-in-Some-first_fraction.ensures in
    let q = t.value in
    let k = c.in_ok-count-in-Some-first_fraction.count in (
      t.ready,
      t.left ∙ i.1,
      record { more = omega (arith, i.2.more, s.stepped.more, t.moved.more); within = t.moved.within },
      (
        n.0 ++ q.0,
        noted-join c.args.work.now c.loop-found.work c.cut_row.new.work c.args.start d k n.0 q.0 i.4 (noted-on c.args.work.now c.loop-found.work c.args.start c.loop-found.count d n.0 n.1 s.nodes) q.1,
        (
          g.0,
          omega (arith, g.1, n.2.1, s.stepped.more, t.moved.more),
          λ splits. n.2.2 splits ∙ ap (below_all n.0)
              (node-cut splits n.2.0 g.0 g.1 x i.0.table.inside l c.loop-found.count c.scan_rows.result (c.scan_rows.ensures.value (work_of x) (length c.args.work.now) (work-known x)) d (c.in_ok-found.was ∙ ap (λ f. Ok (f, d)) c.in-Clear.is) c.in-Some-first_fraction.h c.in-Some-first_fraction.ensures.inside c.in-Some-first_fraction.ensures.value
              ∙ ap (λ s. cut Node (settle (solving splits) g.0) s (cut_of row) l d) (sym (work-same x y s.kept))
              ∙ ap (λ n. cut Node (settle (solving splits) g.0) (work_of z) (cut_of row) (limits c.args.fuel n) d) (sym i.4)
              ∙ q.2 (settle (solving splits) g.0)
              ∙ ap (λ n. below_all q.0 (next (worked c.cut_row.new.state (Ok k)) (settle (solving splits) g.0) (limits c.args.fuel n))) i.4)
              ∙ below-join n.0 q.0 _,
        ),
      ),
      search rules,
    )
