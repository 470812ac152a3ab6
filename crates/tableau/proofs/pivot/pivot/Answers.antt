use Rattle.std.proofs.Common.{◌≡◌, length, get_or, take, sym, refl, ◌∙◌, arith, rules}
use Rattle.tableau.specs.Rows.{pivoted}
use Rattle.tableau.specs.Tables.{no_row}
use Rattle.tableau.proofs.Pivots.{next-done, pivot-ready, taken-done}
use Rattle.tableau.proofs.pivot.pivot.Goals as goal

pub loop-row-preserved : goal.loop-row-preserved
loop-row-preserved c =
    let t = c.args.t.now in
    let f = pivoted (get_or t.rows c.args.place.0 no_row) c.args.place.1 in
    next-done f (take t.count t.rows) c.loop-row.row-items c.loop-row.row-index c.loop-row.invariant c.pivoted.result c.loop-row-test.true c.pivoted.ensures

pub returns-clause-ready : goal.returns-clause-ready
returns-clause-ready c all =
    let t = c.args.t.now in
    let n : length t.rows ≡ 64 = search rules in
    let f = pivoted (get_or t.rows c.args.place.0 no_row) c.args.place.1 in
    let done = taken-done f t.rows c.loop-row.row-items _ t.count c.loop-row.row-index (omega (arith, n, c.requires.ready.room)) c.loop-row-test.false c.loop-row.invariant in
    pivot-ready t _ c.args.place c.requires.ready c.requires.there (omega (arith, n, c.requires.ready.room)) done refl refl (sym c.all_fit.ensures ∙ all)
