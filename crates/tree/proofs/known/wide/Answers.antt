use Rattle.std.proofs.Common.{◌^◌, ◌≤◌, get_or, replicate, pos, nat_abs, sym, ◌∙◌, subst, arith, w32, w64, SFits, rules}
use Rattle.std.proofs.lemmas.Int.{ints, to_z-of_z}
use Rattle.base.proofs.Fill.{filled-all, filled_more}
use Rattle.base.proofs.Ranges.{within-set}
use Rattle.tree.proofs.known.wide.Goals as goal

pub loop-k-preserved : goal.loop-k-preserved
loop-k-preserved c =
    let k = c.loop-k.k in
    let x = get_or c.args.form.now k (pos 0) in
    let f : SFits w32 x = search rules in
    let g : SFits w64 c.from.result = search rules in
    let e = to_z-of_z w64 c.from.result g ∙ c.from.ensures ∙ to_z-of_z w32 x f in (
      filled_more (pos 0) c.args.form.now (replicate 10 (pos 0)) c.loop-k.wide k _ (omega arith) e c.loop-k.invariant.0,
      within-set (2 ^ 31) c.loop-k.wide k _ (subst (λ y. nat_abs y ≤ 2 ^ 31) (sym e) (omega (arith, ints, f.sfits))) c.loop-k.invariant.1,
    )

pub returns : goal.returns
returns c =
    record {
      same = filled-all (pos 0) c.args.form.now (replicate 10 (pos 0)) c.loop-k.wide c.loop-k.k (omega arith) c.loop-k.invariant.0;
      small = c.loop-k.invariant.1;
    }
