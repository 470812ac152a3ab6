use Rattle.std.proofs.Common.{◌≡◌, get_or, Some, None, Err, sym, refl, ap, ◌∙◌, subst, rules}
use Rattle.tableau.specs.Columns.{entering}
use Rattle.tableau.specs.Tables.{no_row, top}
use Rattle.solver.specs.Bounds.{AllConst}
use Rattle.solver.proofs.Constants.{const-push}
use Rattle.solver.specs.Rules.{turn}
use Rattle.solver.specs.Ties.{after_cut, limits, moved, with_table}
use Rattle.solver.proofs.Turning.{place_none, place-some, row-alone, row-broken, row-turned}
use Rattle.solver.proofs.turn.add_row.Goals as goal

pub returns-then-not-fits : goal.returns-then-not-fits
returns-then-not-fits c =
    record {
      value = λ again s context n room. row-broken c.args.place again c.args.t.now s context n c.args.row c.args.fuel room c.args.count (sym c.if-not-fits.ensures) ∙ ap Err (sym c.out_of_range.ensures);
      constants = λ _ _. tt;
      ready = tt;
      counts = tt;
      nodes = tt;
      stepped = tt;
    }

pub returns-in-Some : goal.returns-in-Some
returns-in-Some c =
    let t = c.args.t.now in
    let u = c.push_row.new.t in
    let q = c.push_row.ensures in
    let p = place-some u t.count c.in-Some.spot c.in-Some.ensures.value in
    let e : entering (top u) c.args.row ≡ Some c.in-Some.spot.1 = ap (entering (top u)) (sym q.row) ∙ p.1 in
    let r : get_or u.rows c.in-Some.spot.0 no_row ≡ c.args.row = ap (λ i. get_or u.rows i no_row) p.0 ∙ q.row in
    record {
      value = λ again s context n room.
          row-turned c.args.place again t s context n c.args.row c.args.fuel room c.args.count u q.top q.rest (sym c.if-not-fits.ensures) c.in-Some.spot.1 e (moved c.turn.new.t (after_cut s context n) c.turn.result)
          (ap (λ x. turn c.args.place x c.in-Some.spot.1 (with_table u (after_cut s context n)) (limits c.args.fuel room) c.args.count) (sym r) ∙ c.turn.ensures.value (after_cut s context n) room);
      constants = λ a h. c.turn.ensures.constants (subst AllConst (sym q.rows) (const-push _ _ a h));
      ready = search rules;
      counts = search rules;
      nodes = c.turn.ensures.nodes;
      stepped = search rules;
    }

pub returns-in-None : goal.returns-in-None
returns-in-None c =
    let t = c.args.t.now in
    let u = c.push_row.new.t in
    let q = c.push_row.ensures in
    let e : entering (top u) c.args.row ≡ None = ap (entering (top u)) (sym q.row) ∙ place_none u t.count c.in-None.ensures.value in
    record {
      value = λ again s context n room. row-alone c.args.place again t s context n c.args.row c.args.fuel room c.args.count u q.top q.rest (sym c.if-not-fits.ensures) e;
      constants = λ a h. subst AllConst (sym q.rows) (const-push _ _ a h);
      ready = q.ready;
      counts = q.counts;
      nodes = refl;
      stepped = search rules;
    }
