use Rattle.std.proofs.Common.{map, sym, ap, ◌∙◌, subst, w64, SFits, rules}
use Rattle.std.proofs.lemmas.Int.{to_z-of_z}
use Rattle.base.specs.Numbers.{mod_by}
use Rattle.tableau.specs.Cuts.{CutSound}
use Rattle.tableau.proofs.CutRanges.{cut-is, cut-sound}
use Rattle.tableau.proofs.cut.cut_of.Goals as goal

pub returns : goal.returns
returns c =
    let row = c.args.row.now in
    let f : SFits w64 row.div = search rules in
    let d = to_z-of_z w64 row.div f in
    let form = c.reduce-2.ensures ∙ ap (map (mod_by _)) c.negate.ensures in
    cut-is row _ _ _ d c.reduce.ensures form

pub invariant_of-result : goal.invariant_of-result
invariant_of-result c =
    let row = c.args.row.now in
    let f : SFits w64 row.div = search rules in
    let d = to_z-of_z w64 row.div f in
    let form = c.reduce-2.ensures ∙ ap (map (mod_by _)) c.negate.ensures in
    let s = subst CutSound (sym (cut-is row _ _ _ d c.reduce.ensures form)) (cut-sound row c.requires.above c.requires.below) in
    record { coefs_low = s.coefs_low; coefs_high = s.coefs_high; form_low = s.form_low; form_high = s.form_high; below = s.below }
