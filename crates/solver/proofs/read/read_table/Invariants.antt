use Rattle.std.proofs.Common.{◌≡◌, ◌+◌, map, take, drop}
use Rattle.tableau.specs.Tables.{Ready, rest, top, unit_rows}
use Rattle.solver.specs.Solves.{fitted, numbers_fit, row_of}
use Rattle.solver.proofs.read.read_table.Given as goal

abbrev pub invariant-loop-i : goal.invariant-loop-i
invariant-loop-i g l =
    let rows = (g.S.Source.meaning l.source).rows in
    let n = l.c.n in
    let p = l.c.p in
    Ready l.table × (l.table.count ≡ n + l.i) × (l.table.unknowns ≡ n) × (top l.table ≡ unit_rows 0 n)
    × (rest l.table ≡ map (row_of n p) (map (fitted (n + p + 1)) (take l.i rows)))
    × (numbers_fit l.i (map (fitted (n + p + 1)) (drop l.i rows)) ≡ numbers_fit 0 (map (fitted (n + p + 1)) rows))
