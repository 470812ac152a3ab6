use Rattle.std.proofs.Common.{◌-◌, ◌^◌, get_or, set, pos, sym, ap, ◌∙◌, subst, w64, SFits, rules}
use Rattle.std.proofs.lemmas.Int.{to_z-of_z}
use Rattle.base.specs.Numbers.{AllWithin}
use Rattle.solver.proofs.Keeping.{within-written}
use Rattle.solver.proofs.Reading.{form-closed, front-copied, within-front}
use Rattle.solver.proofs.read.Numbers.form.Goals as goal

pub returns-clause-value : goal.returns-clause-value
returns-clause-value c =
    let xs = c.args.self.now.items.now in
    let p = c.args.p in
    let f : SFits w64 (get_or xs p (pos 0)) = search rules in
    let e = front-copied 10 p xs c.copy_from_slice.new.self c.copy_from_slice.ensures.after in
    ap (set _ 9) (to_z-of_z w64 (get_or xs p (pos 0)) f) ∙ form-closed p xs _ c.requires.few c.requires.wide e

pub returns-clause-small : goal.returns-clause-small
returns-clause-small c =
    let xs = c.args.self.now.items.now in
    let p = c.args.p in
    let f : SFits w64 (get_or xs p (pos 0)) = search rules in
    let e = front-copied 10 p xs c.copy_from_slice.new.self c.copy_from_slice.ensures.after in
    within-written _ 9 (get_or xs p (pos 0)) f (c.args.self.now.small p) (subst (AllWithin (2 ^ 30)) (sym e) (within-front (10 - p) p xs c.args.self.now.small))
