use Rattle.std.proofs.Common.{◌≡◌, map, set, neg_ℤ, sym, ap, ◌∙◌, subst, arith, w64, SFits, to_z, of_z, rules}
use Rattle.std.proofs.lemmas.Int.{ints, to_z-of_z}
use Rattle.tableau.specs.Cuts.{cut_form, cut_row, numbers}
use Rattle.tableau.specs.Rows.{Sound, lowest}
use Rattle.tableau.proofs.CutRanges.{cut-above, cut-row-sound, sound}
use Rattle.tableau.proofs.cut_numbers.Cut.row.Goals as goal
use Rattle.tableau.proofs.cut_numbers.Cut.row.Goals.{in-Some, in_default}

pub lowest-requires : goal.lowest-requires
lowest-requires c = omega (arith, ints, (sound c.args.self.now).below, cut-above (numbers c.args.self.now) (sound c.args.self.now))

pub returns : goal.returns
returns c =
    let cut = numbers c.args.self.now in
    let s = sound c.args.self.now in
    let new = c.args.new in
    let f : SFits w64 cut.div = search rules in
    let d = to_z-of_z w64 cut.div f in
    let form : c.match-new.form ≡ cut_form cut new = elim c.match-new.branch [
      | in-Some w ↦ w.form-is ∙ ap (λ l. set l w.in-Some.q (to_z w64 (of_z w64 cut.div))) c.negate.ensures ∙ ap (set (map neg_ℤ cut.form) w.in-Some.q) d ∙ ap (cut_form cut) (sym w.in-Some.is)
      | in_default w ↦ w.form-is ∙ c.negate.ensures ∙ ap (cut_form cut) (sym w.in_default.is)
    ] in
    let e : c.lowest.result ≡ cut_row cut new = c.lowest.ensures.value ∙ (λ k. lowest (record { coefs = cut.coefs; form = form k; div = d k })) in
    record { value = e; sound = subst Sound (sym e) (cut-row-sound cut s new) }
