use Rattle.std.proofs.Common.{map, pos}
use Rattle.base.specs.Numbers.{quot_by}
use Rattle.base.proofs.Fill.{Filled}
use Rattle.base.proofs.number.divide.Given as goal

abbrev pub invariant-loop-x : goal.invariant-loop-x
invariant-loop-x l = Filled (pos 0) (map (quot_by l.by.value) l.initial.xs) l.initial.xs l.xs l.x-index
