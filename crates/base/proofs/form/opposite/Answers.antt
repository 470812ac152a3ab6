use Rattle.std.proofs.Common.{◌≡◌, get_or, set, pos, ◌-ℤ◌, neg_ℤ, ap, ◌∙◌, arith}
use Rattle.std.proofs.lemmas.List.{get_or-map}
use Rattle.std.proofs.lemmas.Int.{ints}
use Rattle.base.proofs.form.opposite.Goals as goal

pub overflow_sub-other : goal.overflow_sub-other
overflow_sub-other c =
    let C = c.args.form.now in
    let e : get_or c.negate.new.xs 9 (pos 0) ≡ neg_ℤ (get_or C 9 (pos 0)) = ap (λ l. get_or l 9 (pos 0)) c.negate.ensures ∙ get_or-map neg_ℤ C 9 (pos 0) (pos 0) (omega arith) in
    omega (arith, ints, e, c.requires 9)

pub returns : goal.returns
returns c =
    let C = c.args.form.now in
    let e : get_or c.negate.new.xs 9 (pos 0) ≡ neg_ℤ (get_or C 9 (pos 0)) = ap (λ l. get_or l 9 (pos 0)) c.negate.ensures ∙ get_or-map neg_ℤ C 9 (pos 0) (pos 0) (omega arith) in
    ap (set c.negate.new.xs 9) (omega (arith, ints, e, c.requires 9)) ∙ ap (λ l. set l 9 (neg_ℤ (get_or C 9 (pos 0)) -ℤ pos 1)) c.negate.ensures
