use Rattle.std.proofs.Common.{◌≡◌, ◌+◌, ◌*◌, ◌≤◌, [], get_or, drop, ◌+ℤ◌, nat_abs}
use Rattle.base.specs.Forms.{dot}
use Rattle.source.specs.Systems.{entry}
use Rattle.algebra.specs.Lists.{column}
use Rattle.nest.specs.Acts.{nest_of}
use Rattle.nest.proofs.nest.Nest.put_in.Given as goal

abbrev pub invariant-loop-i : goal.invariant-loop-i
invariant-loop-i l =
    let L = nest_of l.self in
    let C = get_or L.cells l.cell [] in
    let U = column L.bounds l.k in
    (nat_abs l.sum.value ≤ 300 + l.i * 90000) × (l.sum.value +ℤ dot (drop l.i C) (drop l.i U) ≡ entry L.cells l.cell (L.n + l.k) +ℤ dot C U)
