use Rattle.std.proofs.Common.{◌^◌, pos}
use Rattle.base.specs.Numbers.{AllWithin}
use Rattle.base.proofs.Fill.{Filled}
use Rattle.tree.proofs.known.wide.Given as goal

abbrev pub invariant-loop-k : goal.invariant-loop-k
invariant-loop-k l = Filled (pos 0) l.form l.initial.wide l.wide l.k × AllWithin (2 ^ 31) l.wide
