use Rattle.std.proofs.Common.{◌≡◌, ◌^◌, ◌≤◌, get_or, length, pos, nat_abs, sym, ◌∙◌, lit<, ext_get_or, arith, w32, w64, SFits, to_z, of_z, rules}
use Rattle.std.proofs.lemmas.Int.{ints}
use Rattle.solver.proofs.Arrays.{narrowed, within-next}
use Rattle.solver.proofs.settle.narrow.Goals as goal

pub map-requires : goal.map-requires
map-requires c = (
  lit< tt,
  (
    lit< tt,
    (
      lit< tt,
      record {
        at = λ xs t q x u y f z.
            let small : nat_abs x ≤ 2 ^ 30 = within-next (2 ^ 30) c.args.form.now xs t u x y z c.requires in
            let fits : SFits w32 (to_z w64 (of_z w64 x)) = omega (arith, ints) in
            search rules;
      },
    ),
  ),
)

pub returns : goal.returns
returns c =
    let xs = c.args.form.now in
    let ys = c.map.result in
    let long : length ys ≡ 10 = c.map.ensures.items.long in
    let wide : length xs ≡ 10 = search rules in
    record {
      value = ext_get_or (pos 0) ys xs (long ∙ sym wide) (λ k lt.
          let h = c.map.ensures.items.at k (pos 0) (pos 0) (omega arith) in
          let e : get_or ys k (pos 0) ≡ to_z w32 (of_z w32 (to_z w64 (of_z w64 (get_or xs k (pos 0))))) = search (rules, h.2) in
          e ∙ narrowed (get_or xs k (pos 0)) (c.requires k));
    }
