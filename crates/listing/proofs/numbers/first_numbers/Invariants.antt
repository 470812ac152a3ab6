use Rattle.std.proofs.Common.{◌≡◌, ◌-◌, length, take}
use Rattle.listing.specs.Listings.{first_numbers}
use Rattle.listing.proofs.NumberSteps.{then}
use Rattle.listing.proofs.numbers.first_numbers.Given as goal

abbrev pub invariant-loop-place : goal.invariant-loop-place
invariant-loop-place l = then (take l.place-index l.places) (first_numbers (length l.initial.places - l.place-index) l.rest) ≡ first_numbers (length l.initial.places) l.text
