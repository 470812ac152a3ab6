use Rattle.std.proofs.Common.{◌*◌, ◌^◌, ◌≤◌, ℤ, ◌+ℤ◌, ◌*ℤ◌, nat_abs, arith, w64, SFits, rules}
use Rattle.std.proofs.lemmas.Int.{to_z-of_z}
use Rattle.base.proofs.Products.{add-within, fits-within, mul-within}
use Rattle.base.proofs.form.plus_product.Goals as goal

-- the product fits, and so does the sum
both-fit : (s x y : ℤ) → nat_abs s ≤ 9 * 2 ^ 58 → nat_abs x ≤ 2 ^ 31 → nat_abs y ≤ 2 ^ 27 → SFits w64 (x *ℤ y) × SFits w64 (s +ℤ (x *ℤ y))
both-fit s x y hs hx hy =
    let m = mul-within x y (2 ^ 31) (2 ^ 27) hx hy in
    let a = add-within s (x *ℤ y) (9 * 2 ^ 58) (2 ^ 58) hs m in
    (fits-within (x *ℤ y) (omega (arith, m)), fits-within (s +ℤ (x *ℤ y)) (omega (arith, a)))

pub overflow_add-result : goal.overflow_add-result
overflow_add-result c =
    let fx = c.ranges.x in
    let fy = c.ranges.y in
    let fs : SFits w64 c.args.sum.value = search rules in
    let f = both-fit c.args.sum.value c.args.x c.args.y c.requires.small_sum c.requires.small_x c.requires.small_y in
    let fp : SFits w64 (c.args.x *ℤ c.args.y) = f.0 in
    simp to_z-of_z f.1

pub returns : goal.returns
returns c =
    let fx = c.ranges.x in
    let fy = c.ranges.y in
    let fs : SFits w64 c.args.sum.value = search rules in
    let f = both-fit c.args.sum.value c.args.x c.args.y c.requires.small_sum c.requires.small_x c.requires.small_y in
    let fp : SFits w64 (c.args.x *ℤ c.args.y) = f.0 in
    let fa : SFits w64 (c.args.sum.value +ℤ (c.args.x *ℤ c.args.y)) = f.1 in
    simp to_z-of_z
