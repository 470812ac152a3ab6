use Rattle.std.proofs.Common.{take, Err, sym, ap, ◌∙◌, rules}
use Rattle.solver.specs.Bounds.{in_force}
use Rattle.solver.specs.Ties.{limits}
use Rattle.solver.proofs.Testing.{with-row-in, with-row-out}
use Rattle.solver.proofs.test.test_with.Goals as goal

pub returns-then-not-join : goal.returns-then-not-join
returns-then-not-join c =
    let j = c.if-not-join.ensures in
    record {
      value = λ s n k. with-row-out s c.args.form.now (limits c.args.fuel n) c.args.count (sym j.answer) ∙ ap Err (sym c.out_of_range.ensures);
      kept = record { count = j.counts.0; rows = j.rows; parameters = j.counts.1; made = j.counts.2 };
      nodes = tt;
      stepped = tt;
    }

pub returns : goal.returns
returns c =
    let x = c.join.new.self in
    let j = c.if-not-join.ensures in
    let d = c.drop-guard.ensures in
    record {
      value = λ s n k.
          with-row-in s c.args.form.now (limits c.args.fuel n) c.args.count c.args.ctx.now k x.parameters x.made (in_force x) j.counts.1 j.counts.2 j.rows (sym j.answer)
          ∙ c.test.ensures.value n;
      kept =
          record {
            count = d.counts.0;
            rows = ap (λ n. take n c.drop-guard.new.self.0.forms) d.counts.0 ∙ ap (take c.args.ctx.now.count) d.rows ∙ j.kept;
            parameters = d.counts.1 ∙ j.counts.1;
            made = d.counts.2 ∙ j.counts.2;
          };
      nodes = search rules;
      stepped = search rules;
    }
