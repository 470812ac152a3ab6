use Rattle.std.proofs.Common.{◌∙◌, arith}
use Rattle.base.proofs.Gcds.{gcd-step}
use Rattle.base.proofs.number.gcd.Goals as goal

pub loop-y-preserved : goal.loop-y-preserved
loop-y-preserved c = gcd-step c.loop-y.x c.loop-y.y (omega arith) ∙ c.loop-y.invariant
