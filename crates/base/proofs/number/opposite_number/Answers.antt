use Rattle.std.proofs.Common.{arith}
use Rattle.std.proofs.lemmas.Int.{ints}
use Rattle.base.proofs.number.opposite_number.Goals as goal

pub returns : goal.returns
returns c = omega (arith, ints, c.requires)
