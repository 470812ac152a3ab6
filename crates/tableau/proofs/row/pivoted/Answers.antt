use Rattle.std.proofs.Common.{◌≡◌, length, get_or, pos, ◌*ℤ◌, ◌<ℤ◌, sym, ap, ◌∙◌, subst, arith, w64, SFits, to_z, of_z, rules}
use Rattle.std.proofs.lemmas.Int.{to_z-of_z}
use Rattle.base.proofs.There.{back, forth}
use Rattle.tableau.proofs.Pivots.{pivoted-zero, turned-above}
use Rattle.tableau.proofs.row.pivoted.Goals as goal

pub returns-then-b-eq0 : goal.returns-then-b-eq0
returns-then-b-eq0 c =
    let h = c.args.h in
    let i = c.args.i.now in
    let hc : length h.coefs ≡ 9 = search rules in
    let ic : length i.coefs ≡ 9 = search rules in
    let hf : length h.form ≡ 10 = search rules in
    let if : length i.form ≡ 10 = search rules in
    let b = get_or h.coefs c.args.j (pos 0) in
    let fb : SFits w64 b = search rules in
    let none : b ≡ pos 0 = sym (to_z-of_z w64 b fb) ∙ ap (to_z w64) c.if-b-eq0.true in
    pivoted-zero i c.args.j h (omega (arith, hc, c.requires.column)) (hc ∙ sym ic) (hf ∙ sym if) c.requires.above c.requires.sound_h none

pub lowest-requires : goal.lowest-requires
lowest-requires c =
    let a = get_or c.args.i.now.coefs c.args.j (pos 0) in
    let d = c.args.h.div in
    let r = c.times-2.result in
    let fa : SFits w64 a = search rules in
    let fd : SFits w64 d = search rules in
    let fr : SFits w64 r = search rules in
    let there = to_z w64 (of_z w64 d) in
    let v = back (λ z. r ≡ a *ℤ z) d fd (back (λ z. r ≡ z *ℤ there) a fa (back (λ z. r ≡ to_z w64 (of_z w64 z) *ℤ there) a fa c.times-2.ensures.value)) in
    forth (λ z. pos 0 <ℤ z) r fr (subst (λ z. pos 0 <ℤ z) (sym v) (turned-above c.args.i.now c.args.j c.args.h c.requires.above c.requires.sound_h))
