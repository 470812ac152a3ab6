use Rattle.std.proofs.Common.{◌≡◌, ◌≤◌, ◌+◌, length}
use Rattle.tree.specs.Walks.{answer_of}
use Rattle.tree.proofs.state.Walk.see_all.Given as goal

abbrev pub invariant-loop-rest : goal.invariant-loop-rest
invariant-loop-rest l = (l.self.past + length l.rest ≤ l.initial.self.past + length l.nodes) × (answer_of l.self l.rest ≡ answer_of l.initial.self l.nodes)

abbrev pub decreases-loop-rest : goal.decreases-loop-rest
decreases-loop-rest l = length l.rest
