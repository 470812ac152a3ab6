use Rattle.std.proofs.Common.{◌≡◌, ℕ, ◌+◌, ◌-◌, ◌<◌, ◌≤◌}
use Rattle.tableau.specs.Tables.{Ready, in_use}
use Rattle.solver.specs.Bounds.{AllConst, Stepped, in_force}
use Rattle.solver.specs.Rules.{settle, test_work, testing}
use Rattle.solver.specs.Ties.{limits, test_of}
use Rattle.solver.proofs.test.test.Given as goal

-- what is left of the rules' test is what the loop has still to do
abbrev pub invariant-loop-i : goal.invariant-loop-i
invariant-loop-i l =
    Ready l.t × (l.cuts ≤ 24) × (l.t.count ≤ 40 + l.cuts) × Stepped l.fuel l.initial.count l.count × AllConst (in_use l.t)
    × ((gas : ℕ) × (l.fuel < gas + l.count.steps) × ((n : ℕ) → settle testing gas (test_of l.t l.cuts) (limits l.fuel n) l.count ≡ settle testing 100_001 (test_work l.ctx.parameters l.ctx.made (in_force l.ctx)) (limits l.fuel n) l.initial.count))
    × (l.count.nodes ≡ l.initial.count.nodes)

abbrev pub decreases-loop-i : goal.decreases-loop-i
decreases-loop-i l = l.fuel - l.count.steps
