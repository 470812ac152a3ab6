use Rattle.std.proofs.Common.{◌≡◌}
use Rattle.base.specs.Numbers.{gcd}
use Rattle.base.proofs.number.gcd.Given as goal

abbrev pub invariant-loop-y : goal.invariant-loop-y
invariant-loop-y l = gcd l.x l.y ≡ gcd l.a l.b

abbrev pub decreases-loop-y : goal.decreases-loop-y
decreases-loop-y l = l.y
