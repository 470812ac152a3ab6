use Rattle.std.proofs.Common.{◌≡◌, length, sym, ◌∙◌, subst, arith, rules}
use Rattle.std.proofs.lemmas.List.{at_drop_all}
use Rattle.tableau.specs.Columns.{Enters, entering, entering_from}
use Rattle.tableau.specs.Tables.{top}
use Rattle.tableau.proofs.Entering.{enters}
use Rattle.tableau.proofs.column.entering.Goals as goal

pub returns : goal.returns
returns c =
    let hs = top c.args.t.now in
    let i = c.args.i.now in
    let j = c.loop-j.j in
    let n : length i.coefs ≡ 9 = search rules in
    let e : c.loop-j.best ≡ entering hs i = sym (at_drop_all (λ xs. entering_from hs i j xs c.loop-j.best) i.coefs j (omega (arith, n))) ∙ c.loop-j.invariant.0 in
    record { value = e; best = subst (Enters hs i) (sym e) (enters hs i n) }
