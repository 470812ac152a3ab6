use Rattle.std.proofs.Common.{arith}
use Rattle.std.proofs.lemmas.List.{length-append}
use Rattle.nest.specs.Acts.{nest_of}
use Rattle.nest.specs.Tables.{cell_rows, loop_rows}
use Rattle.nest.proofs.Rows.{length-cell_rows, length-loop_rows}
use Rattle.nest.proofs.nest.acts.NestSource.rows.Goals as goal

pub returns : goal.returns
returns c =
    let s = c.args.self.now in
    let L = nest_of s in
    let a = length-append (loop_rows L.n 0 L.bounds) (cell_rows L.n L.bounds L.cells) in
    let l = length-loop_rows L.n 0 L.bounds in
    let m = length-cell_rows L.n L.bounds L.cells in
    record { value = omega (arith, a, l, m, s.each_bounded, c.unknowns.ensures.value, c.rows.ensures.value) }
