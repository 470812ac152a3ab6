use Rattle.std.proofs.Common.{◌≡◌, ◌+◌, ◌<◌, [], ◌∷◌, ◌++◌, map, length, take, sym, ap, ◌∙◌, arith, rules}
use Rattle.std.proofs.lemmas.List.{append_assoc, get_or-take, length-take, map_more}
use Rattle.solver.specs.Tests.{test_row}
use Rattle.tableau.specs.Tables.{unit_rows}
use Rattle.solver.proofs.start.test_table.Goals as goal

pub loop-form-preserved : goal.loop-form-preserved
loop-form-preserved c =
    let i = c.loop-form.invariant in
    let k = c.loop-form.form-index in
    let ctx = c.args.ctx.now in
    let lt : k < ctx.count = omega (arith, length-take ctx.count ctx.forms) in
    let f = test_row ctx.parameters ctx.made in
    let u = unit_rows 0 (ctx.parameters + ctx.made) in
    let q = c.push_row.ensures in (
      q.ready,
      search rules,
      search rules,
      q.rows ∙ ap (λ l. l ++ c.test_row.result ∷ []) i.3 ∙ append_assoc u (map f (take k ctx.forms)) _
          ∙ ap (λ x. u ++ (map f (take k ctx.forms) ++ x ∷ [])) (c.test_row.ensures.value ∙ ap f (get_or-take ctx.count ctx.forms k [] lt)) ∙ ap (λ l. u ++ l) (sym (map_more f ctx.forms k [] (search rules))),
    )

pub returns : goal.returns
returns c =
    let i = c.loop-form.invariant in
    let ctx = c.args.ctx.now in
    let n : length ctx.forms ≡ 31 = search rules in
    let e : c.loop-form.form-index ≡ ctx.count = omega (arith, length-take ctx.count ctx.forms, ctx.room) in
    record {
      rows = i.3 ∙ ap (λ n. unit_rows 0 (ctx.parameters + ctx.made) ++ map (test_row ctx.parameters ctx.made) (take n ctx.forms)) e;
      ready = i.0;
      counts = (omega (arith, i.1), i.2);
    }
