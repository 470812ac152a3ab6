use Rattle.std.proofs.Common.{◌≡◌, ◌+◌, map, take, drop}
use Rattle.solver.specs.Bounds.{in_force}
use Rattle.solver.specs.Solves.{fitted, form_of, numbers_fit}
use Rattle.solver.proofs.read.read_context.Given as goal

abbrev pub invariant-loop-i : goal.invariant-loop-i
invariant-loop-i g l =
    let rows = (g.S.Source.meaning l.source).context in
    let p = l.c.p in
    (l.ctx.count ≡ l.i) × (l.ctx.made ≡ 0) × (l.ctx.parameters ≡ p)
    × (in_force l.ctx ≡ map (λ row. form_of p (fitted (p + 1) row)) (take l.i rows))
    × (numbers_fit (l.c.m + l.i) (map (fitted (p + 1)) (drop l.i rows)) ≡ numbers_fit l.c.m (map (fitted (p + 1)) rows))
