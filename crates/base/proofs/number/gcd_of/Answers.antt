use Rattle.std.proofs.Common.{◌≡◌, drop, sym, ap, ◌∙◌, arith, rules}
use Rattle.std.proofs.lemmas.List.{at_drop_all}
use Rattle.base.specs.Numbers.{gcds}
use Rattle.base.proofs.Gcds.{gcds-one}
use Rattle.base.proofs.number.gcd_of.Goals as goal

pub returns-then-all-eq1 : goal.returns-then-all-eq1
returns-then-all-eq1 c =
    let i = c.loop-x.x-index in
    let xs = c.args.xs.now in
    let one : c.loop-x.all ≡ 1 = omega arith in
    sym (gcds-one (drop i xs)) ∙ ap (λ g. gcds g (drop i xs)) (sym one) ∙ c.loop-x.invariant

pub returns : goal.returns
returns c = sym (at_drop_all (gcds c.loop-x.all) c.args.xs.now c.loop-x.x-index (search rules)) ∙ c.loop-x.invariant
