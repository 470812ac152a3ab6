use Rattle.std.proofs.Common.{◌≡◌, ℕ, ◌<◌, length, get_or, take}
use Rattle.tableau.specs.Rows.{Sound}
use Rattle.tableau.specs.Tables.{no_row, unit_rows}
use Rattle.solver.proofs.start.unit_table.Given as goal

abbrev pub invariant-loop-h : goal.invariant-loop-h
invariant-loop-h l = (length l.row-items ≡ l.unknowns) × ((k : ℕ) → k < l.h → Sound (get_or l.row-items k no_row)) × (take l.h l.row-items ≡ unit_rows 0 l.h)
