use Rattle.std.proofs.Common.{◌≡◌, ◌≤◌, true, length, take}
use Rattle.store.specs.Stores.{holding}
use Rattle.store.proofs.install.replace.Given as goal

-- the nodes so far are listed, and the store is open
abbrev pub invariant-loop-node : goal.invariant-loop-node
invariant-loop-node g l =
    let m = g.T.Store.meaning l.initial.store in
    (l.node-index ≤ length l.nodes) × (g.T.Store.meaning l.store ≡ holding m (take l.node-index l.nodes) true)
