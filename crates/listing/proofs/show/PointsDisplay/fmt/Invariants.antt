use Rattle.listing.specs.Texts.{point}
use Rattle.listing.proofs.Prints.{Written}
use Rattle.listing.proofs.show.PointsDisplay.fmt.Given as goal

abbrev pub invariant-loop-form : goal.invariant-loop-form
invariant-loop-form g l = Written g.W.Write.write_str_gives point l.initial.f l.form-items l.form-index l.f
