use Rattle.std.proofs.Common.{◌≡◌, ◌^◌, set, pos, ◌-ℤ◌, neg_ℤ, sym, ap, subst, arith, w64, to_z, of_z}
use Rattle.std.proofs.lemmas.Int.{ints}
use Rattle.base.specs.Numbers.{AllWithin}
use Rattle.tableau.specs.Cuts.{numbers}
use Rattle.tableau.proofs.CutRanges.{cut-above, lower-small, sound}
use Rattle.tableau.proofs.cut_numbers.Cut.lower.Goals as goal

pub overflow_sub-form : goal.overflow_sub-form
overflow_sub-form c = omega (arith, ints, (sound c.args.self.now).below, cut-above (numbers c.args.self.now) (sound c.args.self.now))

pub returns : goal.returns
returns c =
    let cut = numbers c.args.self.now in
    let s = sound c.args.self.now in
    let d : to_z w64 (of_z w64 (pos 0 -ℤ to_z w64 (of_z w64 cut.div))) ≡ neg_ℤ cut.div = omega (arith, ints, s.below, cut-above cut s) in
    let e = ap (set cut.form c.args.q) d in
    record { value = e; small = subst (AllWithin (2 ^ 30)) (sym e) (lower-small cut s c.args.q) }
