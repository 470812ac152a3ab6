use Rattle.std.proofs.Common.{◌≡◌, ◌≤◌, drop}
use Rattle.tree.specs.Finds.{found_in}
use Rattle.tree.specs.Walks.{answer_of, in_six}
use Rattle.store.proofs.ask.find.Given as goal

-- the nodes that are still to come answer what all do
abbrev pub invariant-loop-i : goal.invariant-loop-i
invariant-loop-i g l =
    let list = (g.T.Store.meaning l.store).nodes in
    (l.walk.past ≤ l.i) × (answer_of l.walk (drop l.i list) ≡ in_six (found_in list l.point))
