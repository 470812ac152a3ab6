use Rattle.std.proofs.Common.{◌≡◌, ℕ, ◌+◌, ◌-◌, ◌<◌, List, length, ℤ, Ok}
use Rattle.tree.specs.Trees.{Tree}
use Rattle.solver.specs.Bounds.{StateReady, Stepped}
use Rattle.solver.specs.Ends.{News, Noted, below_all}
use Rattle.solver.specs.Rules.{Work, settle, solving}
use Rattle.solver.specs.Runs.{Run}
use Rattle.solver.specs.Ties.{limits, work_of}
use Rattle.solver.proofs.settle.settle.Given as goal

-- below the new parameters made so far, what is left of the rules' work is what the loop has still to do
abbrev pub invariant-loop-found : goal.invariant-loop-found
invariant-loop-found l =
    StateReady l.state × (l.state.left ≡ l.initial.state.left) × Stepped l.fuel l.initial.count l.count
    × ((news : News) × Noted l.initial.work l.initial.count news l.work (Ok l.count) × ((gas : ℕ) × (l.fuel < gas + l.count.steps) × ((splits : Work → List ℤ → Run Tree) → settle (solving splits) 100_001 (work_of l.initial.state) (limits l.fuel (length l.initial.work)) l.initial.count ≡ below_all news (settle (solving splits) gas (work_of l.state) (limits l.fuel (length l.initial.work)) l.count))))
    × (length l.work ≡ length l.initial.work)

abbrev pub decreases-loop-found : goal.decreases-loop-found
decreases-loop-found l = l.fuel - l.count.steps
