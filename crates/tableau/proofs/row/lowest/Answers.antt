use Rattle.std.proofs.Common.{◌≡◌, sym, ap, ◌∙◌, subst, arith, w64, SFits, to_z, of_z, rules}
use Rattle.std.proofs.lemmas.Int.{ints, to_z-of_z}
use Rattle.base.specs.Numbers.{quot_by}
use Rattle.tableau.specs.Rows.{LowestTerms, gcd_of}
use Rattle.tableau.proofs.Lowest.{lowest-parts, lowest-same, lowest-terms}
use Rattle.tableau.proofs.row.lowest.Goals as goal

pub returns-then-by-eq1 : goal.returns-then-by-eq1
returns-then-by-eq1 c =
    let raw = c.args.row in
    let v = c.divisor_of-by.ensures.value in
    let one : gcd_of raw ≡ 1 = omega (arith, ints, v, c.if-by-eq1.true) in
    let e = lowest-same raw one in
    record { value = sym e; terms = subst (LowestTerms raw) e (lowest-terms raw c.requires) }

pub returns : goal.returns
returns c =
    let raw = c.args.row in
    let g = c.divisor_of-by.result.value in
    let q = c.quotient.result in
    let fq : SFits w64 q = search rules in
    let fd : SFits w64 raw.div = search rules in
    let d = to_z-of_z w64 q fq ∙ c.quotient.ensures ∙ ap (quot_by g) (to_z-of_z w64 raw.div fd) in
    let e = lowest-parts raw g c.divide.new.xs c.divide-2.new.xs (to_z w64 (of_z w64 q)) c.divisor_of-by.ensures.value c.divide.ensures c.divide-2.ensures d in
    record { value = e; terms = subst (LowestTerms raw) (sym e) (lowest-terms raw c.requires) }
