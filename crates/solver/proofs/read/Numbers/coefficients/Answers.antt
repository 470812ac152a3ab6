use Rattle.std.proofs.Common.{◌-◌, ◌^◌, sym, subst}
use Rattle.base.specs.Numbers.{AllWithin}
use Rattle.solver.proofs.Reading.{front-copied, within-front}
use Rattle.solver.proofs.read.Numbers.coefficients.Goals as goal

pub returns-clause-value : goal.returns-clause-value
returns-clause-value c = front-copied 9 c.args.n c.args.self.now.items.now c.copy_from_slice.new.self c.copy_from_slice.ensures.after

pub returns-clause-small : goal.returns-clause-small
returns-clause-small c =
    let xs = c.args.self.now.items.now in
    subst (AllWithin (2 ^ 30)) (sym (front-copied 9 c.args.n xs c.copy_from_slice.new.self c.copy_from_slice.ensures.after)) (within-front (9 - c.args.n) c.args.n xs c.args.self.now.small)
