use Rattle.std.proofs.Common.{sym, subst}
use Rattle.source.specs.Systems.{System}
use Rattle.source.specs.RowSources.{meaning_of}
use Rattle.nest.specs.Loops.{Shaped, loops_from}
use Rattle.nest.proofs.Shapes.{parts, shaped-confined, shaped_of}
use Rattle.nest.proofs.nest.Nest.confine.Goals as goal

pub invariant_of-self : goal.invariant_of-self
invariant_of-self c =
    let s = c.args.self.now in
    let q : Shaped (loops_from (meaning_of c.confine.new.self) s.bounds) =
    subst (λ (S : System). Shaped (loops_from S s.bounds)) (sym c.confine.ensures.left) (shaped-confined (meaning_of s.kept) s.bounds c.args.row.now (shaped_of s)) in
    parts (loops_from (meaning_of c.confine.new.self) s.bounds) q
