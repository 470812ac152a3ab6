use Rattle.listing.specs.Texts.{node_text}
use Rattle.listing.proofs.Prints.{Written}
use Rattle.listing.proofs.show.TreeLinesDisplay.fmt.Given as goal

abbrev pub invariant-loop-node : goal.invariant-loop-node
invariant-loop-node g l = Written g.W.Write.write_str_gives (node_text l.unknowns) l.initial.f l.node-items l.node-index l.f
