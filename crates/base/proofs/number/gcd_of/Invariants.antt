use Rattle.std.proofs.Common.{◌≡◌, drop}
use Rattle.base.specs.Numbers.{gcds}
use Rattle.base.proofs.number.gcd_of.Given as goal

abbrev pub invariant-loop-x : goal.invariant-loop-x
invariant-loop-x l = gcds l.all (drop l.x-index l.xs) ≡ gcds l.g l.xs
