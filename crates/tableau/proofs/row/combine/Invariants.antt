use Rattle.std.proofs.Common.{pos}
use Rattle.base.proofs.Fill.{Filled}
use Rattle.tableau.specs.Rows.{combined}
use Rattle.tableau.proofs.row.combine.Given as goal

abbrev pub invariant-loop-k : goal.invariant-loop-k
invariant-loop-k l = Filled (pos 0) (combined l.p.a l.p.b l.initial.xs l.ys) l.initial.xs l.xs l.k
