use Rattle.std.proofs.Common.{◌≡◌, ◌+◌, ◌≤◌, length, take}
use Rattle.page.specs.Records.{cost_of_all}
use Rattle.page.proofs.write.length_within.Given as goal

-- what is free, and what the records so far take, are all the bytes
abbrev pub invariant-loop-node : goal.invariant-loop-node
invariant-loop-node l = (l.node-index ≤ length l.nodes) × (l.free + cost_of_all (take l.node-index l.nodes) ≡ l.bytes)
