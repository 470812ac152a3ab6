use Rattle.std.proofs.Common.{◌≡◌, take}
use Rattle.listing.proofs.solve.nodes_of.Given as goal

-- the first nodes are listed
abbrev pub invariant-loop-place : goal.invariant-loop-place
invariant-loop-place g l = l.nodes.items ≡ take l.place l.sheet.nodes
