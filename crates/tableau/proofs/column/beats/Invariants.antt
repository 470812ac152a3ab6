use Rattle.std.proofs.Common.{◌≡◌, drop}
use Rattle.tableau.specs.Columns.{beats}
use Rattle.tableau.specs.Tables.{top}
use Rattle.tableau.proofs.column.beats.Given as goal

abbrev pub invariant-loop-h : goal.invariant-loop-h
invariant-loop-h l = beats (drop l.h-index (top l.t)) l.i l.j l.l ≡ beats (top l.t) l.i l.j l.l
