use Rattle.std.proofs.Common.{◌≤◌, length, take, drop, refl, ap, ◌∙◌, arith, rules}
use Rattle.std.proofs.lemmas.List.{drop-append-le, get_or-set_same, length-take, take_more_set, take-set-le}
use Rattle.tableau.specs.Tables.{no_row}
use Rattle.solver.proofs.Keeping.{ready-push}
use Rattle.solver.proofs.start.push_row.Goals as goal

pub returns : goal.returns
returns c =
    let t = c.args.t.now in
    let r = take_more_set t.rows t.count c.args.row (search rules) in
    let n : t.unknowns ≤ length (take t.count t.rows) = rw (length-take t.count t.rows) (omega (arith, c.requires.ready.inside)) in
    record {
      rows = r;
      row = get_or-set_same t.rows t.count c.args.row no_row (search rules);
      top = take-set-le t.unknowns t.rows t.count c.args.row c.requires.ready.inside;
      rest = ap (drop t.unknowns) r ∙ drop-append-le t.unknowns (take t.count t.rows) _ n;
      ready = ready-push t c.args.row (search rules) c.requires.room c.requires.ready c.requires.sound;
      counts = (refl, refl);
    }
