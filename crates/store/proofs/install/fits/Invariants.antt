use Rattle.std.proofs.Common.{◌≡◌, ◌+◌, ◌≤◌, length, take}
use Rattle.store.specs.Stores.{used}
use Rattle.store.proofs.install.fits.Given as goal

-- what is left, and what the nodes so far cost, are the capacity
abbrev pub invariant-loop-node : goal.invariant-loop-node
invariant-loop-node g l =
    let m = g.T.Store.meaning l.store in
    (l.node-index ≤ length l.nodes) × (l.left + used m.costs (take l.node-index l.nodes) ≡ m.capacity)
