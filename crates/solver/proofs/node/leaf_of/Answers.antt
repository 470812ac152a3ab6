use Rattle.std.proofs.Common.{◌≡◌, ◌<◌, map, length, take, ap, ◌∙◌, arith}
use Rattle.std.proofs.lemmas.List.{get_or-take, length-take}
use Rattle.tableau.specs.Tables.{no_row}
use Rattle.tree.specs.declared.node.Node.TheVariants.{Leaf}
use Rattle.tree.specs.Trees.{six_forms}
use Rattle.solver.specs.Ties.{solution_of}
use Rattle.solver.proofs.Writing.{leaf-all, leaf-more}
use Rattle.solver.proofs.node.leaf_of.Goals as goal

pub loop-h-preserved : goal.loop-h-preserved
loop-h-preserved c =
    let t = c.args.t.now in
    let h = c.loop-h.h in
    let lt : h < t.unknowns = omega (arith, length-take t.unknowns t.rows) in
    let inside : h < length t.rows = omega (arith, length-take t.unknowns t.rows) in
    let e = c.solution.ensures.value ∙ ap solution_of (get_or-take t.unknowns t.rows h no_row lt) in
    (c.loop-h.invariant.0, leaf-more t.rows h c.loop-h.forms c.solution.result inside (omega (arith, c.requires.few)) e c.loop-h.invariant.1)

pub returns : goal.returns
returns c =
    let t = c.args.t.now in
    let e : c.loop-h.h ≡ t.unknowns = omega (arith, length-take t.unknowns t.rows) in
    record { value = ap Leaf (leaf-all t.rows c.loop-h.h c.loop-h.forms (omega (arith, c.loop-h.invariant.0)) c.loop-h.invariant.1 ∙ ap (λ n. six_forms (map solution_of (take n t.rows))) e) }
