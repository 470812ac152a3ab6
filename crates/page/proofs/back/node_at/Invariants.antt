use Rattle.std.proofs.Common.{◌≡◌, ◌+◌, ◌-◌, ◌≤◌, length, get_or}
use Rattle.tree.specs.declared.node.Node.TheVariants.{None as Blank}
use Rattle.page.specs.Records.{nodes_in}
use Rattle.page.proofs.back.node_at.Given as goal

abbrev pub invariant-loop : goal.invariant-loop
invariant-loop l = (length l.rest + l.counter ≤ length l.page) × (get_or (nodes_in (length l.page - l.counter) l.rest) (l.i - l.counter) Blank ≡ get_or (nodes_in (length l.page) l.page) l.i Blank)
