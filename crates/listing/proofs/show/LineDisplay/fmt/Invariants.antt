use Rattle.listing.specs.Texts.{spaced}
use Rattle.listing.proofs.Prints.{Written}
use Rattle.listing.proofs.show.LineDisplay.fmt.Given as goal

abbrev pub invariant-loop-x : goal.invariant-loop-x
invariant-loop-x g l = Written g.W.Write.write_str_gives spaced l.initial.f l.x-items l.x-index l.f
