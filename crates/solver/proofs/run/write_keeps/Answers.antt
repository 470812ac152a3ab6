use Rattle.std.proofs.Common.{◌≤◌, length, arith}
use Rattle.std.proofs.lemmas.List.{length-map}
use Rattle.tree.specs.declared.node.Node.TheVariants.{Keep}
use Rattle.solver.specs.Bounds.{in_force}
use Rattle.std.proofs.lemmas.Result.{err_from_is_err_and}
use Rattle.solver.proofs.Writing.{kept-all, kept_more, kept-refused, kept-wrote}
use Rattle.solver.proofs.run.write_keeps.Goals as goal

pub returns-in_err-count : goal.returns-in_err-count
returns-in_err-count c =
    let p = err_from_is_err_and c.from_residual.result c.from_residual.ensures.1 in
    let l = c.loop-form in
    rw (p.1, p.2)
    (record {
      value = kept-refused c.args.ctx.now c.args.work.now c.args.start l.form-index l.work l.count l.invariant c.loop-form-test.true c.in_err-count.field-0.0 c.in_err-count.ensures.value;
      left = tt;
      nodes = tt;
      room = λ _. tt;
      steps = tt;
    })

pub loop-form-preserved : goal.loop-form-preserved
loop-form-preserved c =
    let l = c.loop-form in
    let w = c.in_ok-count.ensures in
    kept_more c.args.ctx.now c.args.work.now c.args.start l.form-index l.work l.count l.invariant c.loop-form-test.true c.write.new.work c.in_ok-count.count c.narrow.result c.narrow.ensures.value w.value w.left

pub returns : goal.returns
returns c =
    let l = c.loop-form in
    let x = c.args.ctx.now in
    let e : length (in_force x) ≤ l.form-index = c.loop-form-test.false in
    record {
      value = kept-all x c.args.work.now c.args.start l.form-index l.work l.count l.invariant e;
      left = kept-wrote x c.args.work.now c.args.start l.form-index l.work l.count l.invariant e;
      nodes = omega (arith, l.invariant.nodes, l.invariant.inside, length-map (in_force x) Keep);
      room = l.invariant.room;
      steps = l.invariant.steps;
    }
