use Rattle.std.proofs.Common.{◌≡◌, [], ◌∷◌, ◌++◌, take, sym, ap, ◌∙◌, subst, arith, rules}
use Rattle.std.proofs.lemmas.List.{get_or_append_left, length-set, take_all, take_at, take_more_set}
use Rattle.tableau.specs.Rows.{Sound}
use Rattle.tableau.specs.Tables.{no_row, unit_rows}
use Rattle.solver.proofs.Keeping.{each-push}
use Rattle.solver.proofs.Starting.{units-more}
use Rattle.solver.proofs.start.unit_table.Goals as goal

pub loop-h-preserved : goal.loop-h-preserved
loop-h-preserved c =
    let h = c.loop-h.h in
    let i = c.loop-h.invariant in
    let xs = c.loop-h.row-items in
    let r = c.unit.result in (
      length-set xs h r ∙ i.0,
      each-push Sound no_row h xs r (omega (arith, i.0)) c.unit.ensures.sound i.1,
      take_more_set xs h r (omega (arith, i.0)) ∙ ap (λ l. l ++ r ∷ []) i.2 ∙ ap (λ x. unit_rows 0 h ++ x ∷ []) c.unit.ensures.value ∙ sym (units-more h),
    )

pub returns : goal.returns
returns c =
    let i = c.loop-h.invariant in
    let xs = c.loop-h.row-items in
    let n = c.args.unknowns in
    let e : c.loop-h.h ≡ n = omega (arith, i.0) in
    record {
      rows = take_at xs _ n i.0 ∙ sym (take_all n xs (omega (arith, i.0))) ∙ ap (λ m. take m xs) (sym e) ∙ i.2 ∙ ap (unit_rows 0) e;
      ready =
          record {
            room = omega arith;
            few = c.requires;
            inside = omega arith;
            sound = λ k lt. subst Sound (sym (get_or_append_left xs _ no_row k (omega (arith, i.0)))) (i.1 k (omega arith));
          };
      counts = search rules;
    }
