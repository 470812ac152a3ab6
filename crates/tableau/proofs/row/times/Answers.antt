use Rattle.std.proofs.Common.{◌^◌, ◌*ℤ◌, arith, w64, SFits}
use Rattle.std.proofs.lemmas.Int.{to_z-of_z}
use Rattle.base.proofs.Products.{mul-within, fits-within}
use Rattle.tableau.proofs.row.times.Goals as goal

pub overflow_mul-result : goal.overflow_mul-result
overflow_mul-result c =
    let fx = c.ranges.x in
    let fy = c.ranges.y in
    let m = mul-within c.args.x c.args.y (2 ^ 30) (2 ^ 30) c.requires.small_x c.requires.small_y in
    simp to_z-of_z (fits-within (c.args.x *ℤ c.args.y) (omega (arith, m)))

pub returns : goal.returns
returns c =
    let fx = c.ranges.x in
    let fy = c.ranges.y in
    let m = mul-within c.args.x c.args.y (2 ^ 30) (2 ^ 30) c.requires.small_x c.requires.small_y in
    let f : SFits w64 (c.args.x *ℤ c.args.y) = fits-within (c.args.x *ℤ c.args.y) (omega (arith, m)) in
    record { value = simp to_z-of_z; within = simp to_z-of_z m }
