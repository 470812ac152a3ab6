use Rattle.std.proofs.Common.{◌≡◌, ◌+◌, ◌++◌, map, take}
use Rattle.tableau.specs.Tables.{in_use, Ready, unit_rows}
use Rattle.solver.specs.Tests.{test_row}
use Rattle.solver.proofs.start.test_table.Given as goal

abbrev pub invariant-loop-form : goal.invariant-loop-form
invariant-loop-form l =
    Ready l.t × (l.t.count ≡ l.ctx.parameters + l.ctx.made + l.form-index) × (l.t.unknowns ≡ l.ctx.parameters + l.ctx.made)
    × (in_use l.t ≡ unit_rows 0 (l.ctx.parameters + l.ctx.made) ++ map (test_row l.ctx.parameters l.ctx.made) (take l.form-index l.ctx.forms))
