use Rattle.std.proofs.Common.{◌≡◌, ◌++◌, map, take, drop}
use Rattle.tableau.specs.Rows.{pivoted}
use Rattle.tableau.proofs.pivot.pivot.Given as goal

-- the rows before this one are pivoted, the others are as they were
abbrev pub invariant-loop-row : goal.invariant-loop-row
invariant-loop-row l = l.row-items ≡ map (pivoted l.by l.j) (take l.row-index l.initial.row-items) ++ drop l.row-index l.initial.row-items
