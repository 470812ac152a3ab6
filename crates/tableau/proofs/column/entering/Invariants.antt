use Rattle.std.proofs.Common.{◌≡◌, ◌<◌, drop, IfSome}
use Rattle.tableau.specs.Columns.{entering, entering_from}
use Rattle.tableau.specs.Tables.{top}
use Rattle.tableau.proofs.column.entering.Given as goal

abbrev pub invariant-loop-j : goal.invariant-loop-j
invariant-loop-j l =
    (entering_from (top l.t) l.i l.j (drop l.j l.i.coefs) l.best ≡ entering (top l.t) l.i) × IfSome l.best (λ l. l < 9)
