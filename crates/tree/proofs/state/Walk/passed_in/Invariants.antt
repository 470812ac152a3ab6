use Rattle.std.proofs.Common.{◌≡◌, ◌<◌, ◌≤◌, ◌+◌, ℕ, List, ℤ, length}
use Rattle.tree.specs.Finds.{walk}
use Rattle.tree.proofs.state.Walk.passed_in.Given as goal

abbrev pub invariant-loop-rest : goal.invariant-loop-rest
invariant-loop-rest l = (0 < l.left) × (l.left + length l.rest ≤ l.past + length l.nodes) × (length l.rest ≤ length l.nodes) × ((n made : ℕ) (ρ : List ℤ) → walk n l.past made ρ l.nodes ≡ walk n l.left made ρ l.rest)

abbrev pub decreases-loop-rest : goal.decreases-loop-rest
decreases-loop-rest l = length l.rest
