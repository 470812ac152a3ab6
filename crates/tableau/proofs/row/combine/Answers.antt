use Rattle.std.proofs.Common.{rules}
use Rattle.base.proofs.Fill.{filled_none, filled-all}
use Rattle.tableau.proofs.Combined.{length-combined, combined-turn}
use Rattle.tableau.proofs.row.combine.Goals as goal

pub loop-k-init : goal.loop-k-init
loop-k-init c = search (rules, filled_none, length-combined)

pub loop-k-preserved : goal.loop-k-preserved
loop-k-preserved c = combined-turn c.args.p.a c.args.p.b c.args.xs.now c.args.ys.now c.loop-k.xs c.loop-k.k c.cross.result (search rules) c.requires.same_length (search rules) (search rules) (search rules) c.cross.ensures c.loop-k.invariant

pub returns : goal.returns
returns c = search (rules, filled-all, length-combined)
