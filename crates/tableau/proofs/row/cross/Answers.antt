use Rattle.std.proofs.Common.{◌^◌, ◌-ℤ◌, arith, w64, SFits, rules}
use Rattle.std.proofs.lemmas.Int.{to_z-of_z}
use Rattle.base.proofs.Products.{sub_within, fits-within}
use Rattle.tableau.proofs.row.cross.Goals as goal

pub overflow_sub-result : goal.overflow_sub-result
overflow_sub-result c =
    let p = c.times.result in
    let q = c.times-2.result in
    let fp : SFits w64 p = search rules in
    let fq : SFits w64 q = search rules in
    let m = sub_within p q (2 ^ 60) (2 ^ 60) c.times.ensures.within c.times-2.ensures.within in
    simp to_z-of_z (fits-within (p -ℤ q) (omega (arith, m)))

pub returns : goal.returns
returns c =
    let p = c.times.result in
    let q = c.times-2.result in
    let fp : SFits w64 p = search rules in
    let fq : SFits w64 q = search rules in
    let m = sub_within p q (2 ^ 60) (2 ^ 60) c.times.ensures.within c.times-2.ensures.within in
    let f : SFits w64 (p -ℤ q) = fits-within (p -ℤ q) (omega (arith, m)) in
    let fa : SFits w64 c.args.p.a = search rules in
    let fb : SFits w64 c.args.p.b = search rules in
    let fx = c.ranges.x in
    let fy = c.ranges.y in
    let ep = simp to_z-of_z at c.times.ensures.value in
    let eq = simp to_z-of_z at c.times-2.ensures.value in
    simp to_z-of_z (cc (ep, eq))
