use Rattle.std.proofs.Common.{◌≡◌, ◌-◌, ◌≤◌, [], ◌∷◌, length, pos, sym, ◌∙◌, subst, arith, w64, SFits, to_z, of_z, to_z-of_z, rules}
use Rattle.tree.specs.Finds.{spread}
use Rattle.tree.specs.Parts.{NoneBelow, total}
use Rattle.tree.proofs.Points.{spread-places}
use Rattle.tree.proofs.Sizes.{spread-above, spread-small}
use Rattle.tree.proofs.known.Known.of.Goals as goal

pub invariant_of-result : goal.invariant_of-result
invariant_of-result c =
    let point = c.args.point.now in
    let fa : SFits w64 c.number-a.result = search rules in
    let fb : SFits w64 c.number-b.result = search rules in
    let fc : SFits w64 c.number-c.result = search rules in
    let fd : SFits w64 c.number-d.result = search rules in
    let a = to_z-of_z {w = w64} fa ∙ c.number-a.ensures.value in
    let b = to_z-of_z {w = w64} fb ∙ c.number-b.ensures.value in
    let g = to_z-of_z {w = w64} fc ∙ c.number-c.ensures.value in
    let d = to_z-of_z {w = w64} fd ∙ c.number-d.ensures.value in
    let e : to_z w64 (of_z w64 c.number-a.result) ∷ to_z w64 (of_z w64 c.number-b.result) ∷ to_z w64 (of_z w64 c.number-c.result) ∷ to_z w64 (of_z w64 c.number-d.result) ∷ pos 0 ∷ pos 0 ∷ pos 0 ∷ pos 0 ∷ pos 0 ∷ [] ≡ spread point = rw (a, b, g, d) (spread-places point c.requires.few) in
    record {
      few = omega arith;
      above = subst NoneBelow (sym e) (spread-above point (9 - length point) c.requires.numbers);
      small = subst (λ ρ. total ρ ≤ 4000000) (sym e) (spread-small point c.requires.numbers c.requires.few);
    }

pub returns-clause-setting : goal.returns-clause-setting
returns-clause-setting c =
    let point = c.args.point.now in
    let fa : SFits w64 c.number-a.result = search rules in
    let fb : SFits w64 c.number-b.result = search rules in
    let fc : SFits w64 c.number-c.result = search rules in
    let fd : SFits w64 c.number-d.result = search rules in
    let a = to_z-of_z {w = w64} fa ∙ c.number-a.ensures.value in
    let b = to_z-of_z {w = w64} fb ∙ c.number-b.ensures.value in
    let g = to_z-of_z {w = w64} fc ∙ c.number-c.ensures.value in
    let d = to_z-of_z {w = w64} fd ∙ c.number-d.ensures.value in
    rw (a, b, g, d) (spread-places point c.requires.few)
