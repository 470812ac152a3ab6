use Rattle.std.proofs.Common.{◌≡◌, ◌+◌, ◌-◌, ◌≤◌, Err, sym, ap, ◌∙◌, subst, arith}
use Rattle.std.proofs.lemmas.Result.{err_from_is_err_and}
use Rattle.std.specs.Option.{SomeIff, ok_or}
use Rattle.base.specs.declared.refusal.Refusal.TheVariants.{StoreFull}
use Rattle.store.specs.Stores.{cost_of}
use Rattle.store.proofs.Rooms.{used-more, used-part, install-full}
use Rattle.store.proofs.install.fits.Goals as goal

pub returns-in_err-left : goal.returns-in_err-left
returns-in_err-left g c =
    let m = g.T.Store.meaning c.args.store.now in
    let xs = c.args.nodes.now in
    let i = c.loop-node.node-index in
    let units = ◌∙◌ {b = cost_of m.costs c.kind.result} c.cost-units.ensures.answer (ap (cost_of m.costs) c.kind.ensures.answer) in
    let more = used-more m.costs xs i _ _ c.loop-node-test.true units in
    let part = used-part m.costs xs (i + 1) in
    let short : (c.cost-units.result ≤ c.loop-node.left) → ⊥ = subst (λ o. SomeIff o (c.cost-units.result ≤ c.loop-node.left) (c.loop-node.left - c.cost-units.result)) c.in_err-left.ensures.ok_part c.checked_sub.ensures in
    let p = err_from_is_err_and c.from_residual.result c.from_residual.ensures.1 in
    let full = (install-full m xs (omega arith)).0 in
    let none = ap (λ o. ok_or o StoreFull) c.in_err-left.ensures.ok_part in
    let e : c.in_err-left.field-0.0 ≡ StoreFull = let v = c.in_err-left.ensures.value ∙ none in cc in
    record { answer = p.1 ∙ ap Err (p.2 ∙ e) ∙ sym full }

pub loop-node-preserved : goal.loop-node-preserved
loop-node-preserved g c =
    let m = g.T.Store.meaning c.args.store.now in
    let xs = c.args.nodes.now in
    let i = c.loop-node.node-index in
    let units = ◌∙◌ {b = cost_of m.costs c.kind.result} c.cost-units.ensures.answer (ap (cost_of m.costs) c.kind.ensures.answer) in
    let more = used-more m.costs xs i _ _ c.loop-node-test.true units in
    let rest = subst (λ o. SomeIff o (c.cost-units.result ≤ c.loop-node.left) (c.loop-node.left - c.cost-units.result)) c.in_ok-left.ensures.ok_part c.checked_sub.ensures in
    (omega arith, omega arith)
