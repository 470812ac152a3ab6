use Rattle.std.proofs.Common.{map, pos, neg_ℤ}
use Rattle.base.proofs.Fill.{Filled}
use Rattle.base.proofs.number.negate.Given as goal

abbrev pub invariant-loop-x : goal.invariant-loop-x
invariant-loop-x l = Filled (pos 0) (map neg_ℤ l.initial.xs) l.initial.xs l.xs l.x-index
