use Rattle.std.proofs.Common.{◌≡◌, ◌≤◌, true, ◌++◌, length, take, drop}
use Rattle.page.specs.Records.{all_holdable, cost_of_all, page_of}
use Rattle.page.proofs.write.put_all.Given as goal

-- the records so far stand first
abbrev pub invariant-loop-node : goal.invariant-loop-node
invariant-loop-node l =
    let done = take l.node-index l.nodes in
    (l.node-index ≤ length l.nodes) × ((l.at ≡ cost_of_all done) × ((l.page ≡ page_of done ++ drop l.at l.initial.page) × (all_holdable done ≡ true)))
