use Rattle.std.proofs.Common.{◌≡◌, ℕ, suc, ◌^◌, ◌<◌, ◌≤◌, get_or, set, replicate, pos, nat_abs, sym, ◌∙◌, subst, ext_get_or, arith, w64, SFits, rules}
use native.Mathlib.Decide.{dec_le}
use Rattle.std.proofs.lemmas.List.{get_or_past}
use Rattle.std.proofs.lemmas.Int.{to_z-of_z}
use Rattle.base.specs.Numbers.{AllWithin, at}
use Rattle.solver.specs.Tests.{test_row}
use Rattle.solver.proofs.Keeping.{sound-one, within-zeros}
use Rattle.base.proofs.Ranges.{within-set}
use Rattle.solver.proofs.Starting.{test-width}
use Rattle.solver.proofs.start.test_row.Goals as goal

pub returns : goal.returns
returns c =
    let x = get_or c.args.form.now 9 (pos 0) in
    let f : SFits w64 x = search rules in
    let S = (test_row c.args.parameters c.args.made c.args.form.now).coefs in
    let ys = c.from_fn-coefs.result in
    let w = test-width c.args.parameters c.args.made c.args.form.now c.requires.few.0 c.requires.few.1 (search rules) in
    let each : (k : ℕ) → k < 9 → at ys k ≡ at S k = λ k lt. let h = c.from_fn-coefs.ensures.items.at k (pos 0) lt in search (rules, h.2) in
    let long = c.from_fn-coefs.ensures.items.long in
    let small : AllWithin (2 ^ 30) ys =
    λ k. elim (dec_le (suc k) 9) [
      | yes lt ↦ let h = c.from_fn-coefs.ensures.items.at k (pos 0) lt in search (rules, h.2)
      | no ge ↦ rw (get_or_past ys k (pos 0) (omega (arith, long))) (omega arith)
    ] in
    let e = ext_get_or (pos 0) ys S (long ∙ sym w) (λ k lt. each k (omega (arith, long))) in
    record {
      value = λ k. record { coefs = e k; form = set (replicate 10 (pos 0)) 9 (to_z-of_z w64 x f k); div = pos 1 };
      sound = sound-one ys _ small (within-set (2 ^ 30) (replicate 10 (pos 0)) 9 _ (subst (λ z. nat_abs z ≤ 2 ^ 30) (sym (to_z-of_z w64 x f)) (c.requires.small 9)) (within-zeros (2 ^ 30) 10));
    }
