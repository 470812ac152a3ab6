use Rattle.std.proofs.Common.{◌≡◌, pos, ap, ◌∙◌, arith, w64, SFits, to_z, rules}
use Rattle.std.proofs.lemmas.Int.{to_z-of_z, to_z_pos, ints}
use Rattle.tableau.specs.Rows.{gcd_of}
use Rattle.tableau.proofs.Lowest.{gcd_of-bounds}
use Rattle.tableau.proofs.row.divisor_of.Goals as goal

pub overflow_cast-result : goal.overflow_cast-result
overflow_cast-result c =
    let w = c.args.row.now in
    let f : SFits w64 w.div = search rules in
    let z = to_z-of_z w64 w.div f in
    let e : c.gcd_of.result ≡ gcd_of w = cc in
    let b = gcd_of-bounds w c.requires in
    omega (arith, ints, b.1, e)

pub invariant_of-result : goal.invariant_of-result
invariant_of-result c =
    let w = c.args.row.now in
    let f : SFits w64 w.div = search rules in
    let z = to_z-of_z w64 w.div f in
    let e : c.gcd_of.result ≡ gcd_of w = cc in
    let b = gcd_of-bounds w c.requires in
    record { above = omega (arith, ints, b.0, b.1, e) }

pub returns : goal.returns
returns c =
    let w = c.args.row.now in
    let f : SFits w64 w.div = search rules in
    let z = to_z-of_z w64 w.div f in
    let e : c.gcd_of.result ≡ gcd_of w = cc in
    let b = gcd_of-bounds w c.requires in
    let i : to_z w64 c.gcd_of.result ≡ pos c.gcd_of.result = to_z_pos w64 _ (omega (arith, ints, b.1, e)) in
    record { value = i ∙ ap pos e; below = rw i (omega (arith, ints, b.1, e)) }
