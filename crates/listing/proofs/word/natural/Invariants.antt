use Rattle.std.proofs.Common.{◌≡◌, ◌^◌, ◌<◌, drop}
use Rattle.listing.specs.Words.{spelled_from}
use Rattle.listing.proofs.word.natural.Given as goal

abbrev pub invariant-loop-b : goal.invariant-loop-b
invariant-loop-b l = (spelled_from l.x (drop l.b-index l.digits) ≡ spelled_from 0 l.digits) × (l.x < 10 ^ l.b-index)
