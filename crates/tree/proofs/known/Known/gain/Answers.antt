use Rattle.std.proofs.Common.{◌≡◌, ◌+◌, ◌*◌, ◌^◌, ◌≤◌, set, sym, subst, add-one, w64, to_z, of_z, rules}
use Rattle.base.specs.Forms.{value_at}
use Rattle.base.specs.Numbers.{floor_by}
use Rattle.tree.specs.Parts.{NoneBelow, total}
use Rattle.tree.proofs.Sizes.{few_made, gained}
use Rattle.tree.proofs.known.Known.gain.Goals as goal

pub invariant_of-self : goal.invariant_of-self
invariant_of-self c =
    let s = c.args.self.now in
    let d = c.args.d in
    let T = c.args.form.now in
    let e : to_z w64 (of_z w64 c.floor_div-number.result) ≡ floor_by d (value_at T s.setting) = search rules in
    let g = gained s.made d T s.setting c.requires.proper s.above s.small in
    record {
      few = few_made s.made d T c.requires.proper;
      above = subst (λ q. NoneBelow (set s.setting (4 + s.made) q)) (sym e) g.0;
      small = subst (λ q. total (set s.setting (4 + s.made) q) ≤ 4000000 * 2 ^ (s.made + 1)) (sym e) (subst (λ m. total (set s.setting (4 + s.made) (floor_by d (value_at T s.setting))) ≤ 4000000 * 2 ^ m) (sym (add-one s.made)) g.1);
    }
