use Rattle.std.proofs.Common.{◌+◌, ◌<◌, [], ◌∷◌, ◌++◌, length, get_or, sym, ap, ◌∙◌, arith}
use Rattle.source.specs.Limits.{numbers_answer}
use Rattle.solver.specs.Solves.{fitted, row_of}
use Rattle.solver.proofs.Reading.{fit-more, rows_more, then_ok}
use Rattle.solver.proofs.read.read_table.Goals as goal

pub loop-i-preserved : goal.loop-i-preserved
loop-i-preserved g c =
    let rows = (g.S.Source.meaning c.args.source.now).rows in
    let n = c.args.c.n in
    let p = c.args.c.p in
    let k = c.loop-i.i in
    let i = c.loop-i.invariant in
    let h : k < length rows = omega (arith, c.requires) in
    let row = fitted (n + p + 1) (get_or rows k []) in
    let x = c.in_ok-read_row.field-0 in
    let v = then_ok (numbers_answer k row) (row_of n p row) x (sym c.in_ok-read_row.was ∙ c.read_row.ensures.answer) in
    let q = c.push_row.ensures in (
      q.ready,
      omega (arith, q.counts.0, i.1),
      q.counts.1 ∙ i.2,
      q.top ∙ i.3,
      q.rest ∙ ap (λ l. l ++ x ∷ []) i.4 ∙ rows_more (row_of n p) (fitted (n + p + 1)) rows k x h v.1,
      sym (fit-more (fitted (n + p + 1)) k k rows h v.0) ∙ i.5,
    )
