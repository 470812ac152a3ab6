use Rattle.std.proofs.Common.{◌≡◌, ◌≤◌, length, take, ◌∙◌, arith, w64, SFits, to_z-of_z, rules}
use Rattle.std.proofs.lemmas.List.{length-map, length-take-le}
use Rattle.base.specs.Forms.{value_at}
use Rattle.tree.specs.Answers.{values_at}
use Rattle.tree.proofs.Points.{six-places}
use Rattle.tree.proofs.known.Known.leaf_values.Goals as goal

pub returns : goal.returns
returns c =
    let ρ = c.args.self.now.setting in
    let vs = values_at ρ (take c.args.n c.args.forms.now) in
    let six : length c.args.forms.now ≡ 6 = search rules in
    let few : length vs ≤ 6 = omega (arith, length-map (take c.args.n c.args.forms.now) (λ C. value_at C ρ), length-take-le c.args.n c.args.forms.now (omega (arith, six, c.requires.few)), c.requires.few) in
    let fa : SFits w64 c.leaf_value-a.result = search rules in
    let fb : SFits w64 c.leaf_value-b.result = search rules in
    let fc : SFits w64 c.leaf_value-c.result = search rules in
    let fd : SFits w64 c.leaf_value-d.result = search rules in
    let fe : SFits w64 c.leaf_value-e.result = search rules in
    let ff : SFits w64 c.leaf_value-f.result = search rules in
    let a = to_z-of_z {w = w64} fa ∙ c.leaf_value-a.ensures.value in
    let b = to_z-of_z {w = w64} fb ∙ c.leaf_value-b.ensures.value in
    let g = to_z-of_z {w = w64} fc ∙ c.leaf_value-c.ensures.value in
    let d = to_z-of_z {w = w64} fd ∙ c.leaf_value-d.ensures.value in
    let e = to_z-of_z {w = w64} fe ∙ c.leaf_value-e.ensures.value in
    let f = to_z-of_z {w = w64} ff ∙ c.leaf_value-f.ensures.value in
    record { value = rw (a, b, g, d, e, f) (six-places vs few) }
