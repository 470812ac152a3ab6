use Rattle.std.proofs.Common.{get_or, Err, sym, ap, ◌∙◌, subst, rules}
use Rattle.std.proofs.lemmas.Result.{err_from_is_err_and, IfOk-from_err}
use Rattle.tableau.specs.Tables.{no_row}
use Rattle.solver.specs.Bounds.{AllConst}
use Rattle.solver.specs.Ties.{moved}
use Rattle.solver.proofs.Constants.{const-turned}
use Rattle.solver.proofs.Turning.{turn-broken, turn-left, turn-made}
use Rattle.solver.proofs.turn.turn.Goals as goal

pub returns-in_err-next : goal.returns-in_err-next
returns-in_err-next c =
    let p = err_from_is_err_and c.from_residual.result c.from_residual.ensures.1 in
    let t = c.args.t.now in
    let e = c.in_err-next.field-0.0 in
    record {
      value = λ s room. turn-left c.args.place (get_or t.rows c.args.spot.0 no_row) c.args.spot.1 t s c.args.fuel room c.args.count e (sym c.tick.ensures.value ∙ c.in_err-next.was) ∙ sym (ap (moved t s) (p.1 ∙ ap Err p.2));
      constants = λ _. IfOk-from_err _ _ c.from_residual.ensures.0;
      ready = IfOk-from_err _ _ c.from_residual.ensures.0;
      counts = search rules;
      nodes = IfOk-from_err _ _ c.from_residual.ensures.0;
      moved = IfOk-from_err _ _ c.from_residual.ensures.0;
    }

pub returns-then-not-pivot : goal.returns-then-not-pivot
returns-then-not-pivot c =
    let t = c.args.t.now in
    let q = c.pivot.ensures in
    record {
      value = λ s room. turn-broken c.args.place (get_or t.rows c.args.spot.0 no_row) c.args.spot.1 t s c.args.fuel room c.args.count c.pivot.new.t c.requires.ready.inside q.counts q.rows c.in_ok-next.next (sym c.in_ok-next.ensures.value) (sym c.if-not-pivot.ensures.answer) ∙ ap Err (sym c.out_of_range.ensures);
      constants = λ _. tt;
      ready = tt;
      counts = q.counts;
      nodes = tt;
      moved = tt;
    }

pub returns : goal.returns
returns c =
    let t = c.args.t.now in
    let q = c.pivot.ensures in
    record {
      value = λ s room. turn-made c.args.place (get_or t.rows c.args.spot.0 no_row) c.args.spot.1 t s c.args.fuel room c.args.count c.pivot.new.t c.requires.ready.inside q.counts q.rows c.in_ok-next.next (sym c.in_ok-next.ensures.value) (sym c.if-not-pivot.ensures.answer);
      constants = λ a. subst AllConst (sym q.rows) (const-turned t c.args.spot.0 c.args.spot.1 c.requires.there.0 a);
      ready = search rules;
      counts = q.counts;
      nodes = c.in_ok-next.ensures.nodes;
      moved = c.in_ok-next.ensures.moved;
    }
