use Rattle.std.proofs.Common.{◌≡◌, ◌^◌, ◌≢◌, get_or, set, pos, ◌+ℤ◌, ◌-ℤ◌, neg_ℤ, sym, ap, ◌∙◌, subst, arith, w64, SFits, to_z, of_z, rules}
use Rattle.std.proofs.lemmas.List.{get_or-map, get_or-set_other}
use Rattle.std.proofs.lemmas.Int.{ints, to_z-of_z}
use Rattle.base.specs.Numbers.{AllWithin}
use Rattle.tableau.specs.Cuts.{numbers}
use Rattle.tableau.proofs.CutRanges.{cut-above, upper-small, sound}
use Rattle.tableau.proofs.cut_numbers.Cut.upper.Goals as goal

pub overflow_sub-form : goal.overflow_sub-form
overflow_sub-form c = omega (arith, ints, (sound c.args.self.now).below, cut-above (numbers c.args.self.now) (sound c.args.self.now))

pub overflow_add-form : goal.overflow_add-form
overflow_add-form c =
    let cut = numbers c.args.self.now in
    let s = sound c.args.self.now in
    let ne : 9 ≢ c.args.q = omega arith in
    let e : get_or (set c.negate.new.xs c.args.q (to_z w64 (of_z w64 cut.div))) 9 (pos 0) ≡ neg_ℤ (get_or cut.form 9 (pos 0)) =
    get_or-set_other c.negate.new.xs c.args.q 9 _ (pos 0) ne ∙ ap (λ l. get_or l 9 (pos 0)) c.negate.ensures ∙ get_or-map neg_ℤ cut.form 9 (pos 0) (pos 0) (search rules) in
    omega (arith, ints, e, s.form_low 9, s.form_high 9, s.below)

pub returns : goal.returns
returns c =
    let cut = numbers c.args.self.now in
    let s = sound c.args.self.now in
    let q = c.args.q in
    let f : SFits w64 cut.div = search rules in
    let d = to_z-of_z w64 cut.div f in
    let ne : 9 ≢ q = omega arith in
    let e : get_or (set c.negate.new.xs q (to_z w64 (of_z w64 cut.div))) 9 (pos 0) ≡ neg_ℤ (get_or cut.form 9 (pos 0)) =
    get_or-set_other c.negate.new.xs q 9 _ (pos 0) ne ∙ ap (λ l. get_or l 9 (pos 0)) c.negate.ensures ∙ get_or-map neg_ℤ cut.form 9 (pos 0) (pos 0) (search rules) in
    let v = ap (set (set c.negate.new.xs q (to_z w64 (of_z w64 cut.div))) 9) (omega (arith, ints, e, s.form_low 9, s.form_high 9, s.below)) in
    let u = v ∙ ap (λ x. set (set c.negate.new.xs q x) 9 (neg_ℤ (get_or cut.form 9 (pos 0)) +ℤ (cut.div -ℤ pos 1))) d ∙ ap (λ l. set (set l q cut.div) 9 (neg_ℤ (get_or cut.form 9 (pos 0)) +ℤ (cut.div -ℤ pos 1))) c.negate.ensures in
    record { value = u; small = subst (AllWithin (2 ^ 30)) (sym u) (upper-small cut s q) }
