use Rattle.std.proofs.Common.{◌≡◌, ◌+◌, ◌-◌, inl, inr, Ok, Err, sym, ap, ◌∙◌, subst, rules}
use Rattle.std.proofs.lemmas.Result.{err_from_is_err_and}
use Rattle.page.specs.declared.record.Flaw.{Flaw}
use Rattle.page.specs.Readings.{opening}
use Rattle.page.specs.Ties.{Agrees, Reads, node_count}
use Rattle.page.proofs.Checking.{flawed-node, leaf-node, new-node, new-node-err, none-node, split-node, split-node-first, split-node-second, taken, tree, unfit-node}
use Rattle.page.proofs.check.Below.+node.Goals as goal

pub returns-in_err-first-clause-value : goal.returns-in_err-first-clause-value
returns-in_err-first-clause-value t c =
    let w = c.args.self.now in
    let e = err_from_is_err_and c.from_residual.result c.from_residual.ensures.1 in
    let f : (flaw : Flaw) × ((c.in_err-first.field-0.0 ≡ record { flaw = flaw; at = c.args.rest }) × (c.open.result ≡ Err flaw)) = search rules in
    let s = subst (Reads (opening w.made w.left c.args.rest.now)) f.1.1 c.open.ensures.reads in
    subst (Agrees node_count (tree w.n w.p w.made w.left c.args.rest.now)) (sym (e.1 ∙ ap Err (e.2 ∙ f.1.0))) (flawed-node w.n w.p w.made w.left c.args.rest f.0 s)

pub returns-then-not-numbers_fit-clause-value : goal.returns-then-not-numbers_fit-clause-value
returns-then-not-numbers_fit-clause-value t c =
    let w = c.args.self.now in
    let s : Reads (opening w.made w.left c.args.rest.now) (Ok (c.in_ok-first.first, c.in_ok-first.after)) = search rules in
    unfit-node w.n w.p w.made w.left c.args.rest (c.in_ok-first.first, c.in_ok-first.after) s c.if-not-numbers_fit.ensures.value

pub returns-in_err-second-in-Split-clause-value : goal.returns-in_err-second-in-Split-clause-value
returns-in_err-second-in-Split-clause-value t c =
    let w = c.args.self.now in
    let n = w.n in
    let p = w.p in
    let made = w.made in
    let left = w.left in
    let L = c.args.rest.now in
    let after = c.in_ok-first.after in
    let o = taken n p made left L c.in_ok-first.first _ after c.in-Split.is (search rules) (search rules) c.if-not-numbers_fit.ensures.value in
    let e = err_from_is_err_and c.from_residual-in_err-second-in-Split.result c.from_residual-in_err-second-in-Split.ensures.1 in
    let h : Agrees node_count (tree n p made (left - 1) after.now) (Err c.in_err-second-in-Split.field-0.0) = search rules in
    split-node-first n p made left L c.in-Split.field-0 after _ _ o.1.0 o.0 o.1.1 h (e.1 ∙ ap Err e.2)

pub returns-in_err-end-in-Split-clause-value : goal.returns-in_err-end-in-Split-clause-value
returns-in_err-end-in-Split-clause-value t c =
    let w = c.args.self.now in
    let n = w.n in
    let p = w.p in
    let made = w.made in
    let left = w.left in
    let L = c.args.rest.now in
    let after = c.in_ok-first.after in
    let o = taken n p made left L c.in_ok-first.first _ after c.in-Split.is (search rules) (search rules) c.if-not-numbers_fit.ensures.value in
    let e = err_from_is_err_and c.from_residual-in_err-end-in-Split.result c.from_residual-in_err-end-in-Split.ensures.1 in
    let g : Agrees node_count (tree n p made (left - 1) after.now) (Ok (c.in_ok-second-in-Split.second, c.in_ok-second-in-Split.first_count)) = search rules in
    let h : Agrees node_count (tree n p made (left - 1) c.in_ok-second-in-Split.second.now) (Err c.in_err-end-in-Split.field-0.0) = search rules in
    split-node-second n p made left L c.in-Split.field-0 after _ _ _ _ o.1.0 o.0 o.1.1 g h (e.1 ∙ ap Err e.2)

pub returns-in_ok-end-in-Split-clause-value : goal.returns-in_ok-end-in-Split-clause-value
returns-in_ok-end-in-Split-clause-value t c =
    let w = c.args.self.now in
    let n = w.n in
    let p = w.p in
    let made = w.made in
    let left = w.left in
    let L = c.args.rest.now in
    let after = c.in_ok-first.after in
    let o = taken n p made left L c.in_ok-first.first _ after c.in-Split.is (search rules) (search rules) c.if-not-numbers_fit.ensures.value in
    let g : Agrees node_count (tree n p made (left - 1) after.now) (Ok (c.in_ok-second-in-Split.second, c.in_ok-second-in-Split.first_count)) = search rules in
    let h : Agrees node_count (tree n p made (left - 1) c.in_ok-second-in-Split.second.now) (Ok (c.in_ok-end-in-Split.end, c.in_ok-end-in-Split.second_count)) = search rules in
    split-node n p made left L c.in-Split.field-0 after _ _ _ _ o.1.0 o.0 o.1.1 g h

pub returns-in_err-end-in-New-clause-value : goal.returns-in_err-end-in-New-clause-value
returns-in_err-end-in-New-clause-value t c =
    let w = c.args.self.now in
    let n = w.n in
    let p = w.p in
    let made = w.made in
    let left = w.left in
    let L = c.args.rest.now in
    let after = c.in_ok-first.after in
    let o = taken n p made left L c.in_ok-first.first _ after c.in-New.is (search rules) (search rules) c.if-not-numbers_fit.ensures.value in
    let e = err_from_is_err_and c.from_residual-in_err-end-in-New.result c.from_residual-in_err-end-in-New.ensures.1 in
    let h : Agrees node_count (tree n p (made + 1) left after.now) (Err c.in_err-end-in-New.field-0.0) = search rules in
    new-node-err n p made left L c.in-New.field-0 after _ _ o.1.0 o.0 o.1.1 h (e.1 ∙ ap Err e.2)

pub returns-in_ok-end-in-New-clause-value : goal.returns-in_ok-end-in-New-clause-value
returns-in_ok-end-in-New-clause-value t c =
    let w = c.args.self.now in
    let n = w.n in
    let p = w.p in
    let made = w.made in
    let left = w.left in
    let L = c.args.rest.now in
    let after = c.in_ok-first.after in
    let o = taken n p made left L c.in_ok-first.first _ after c.in-New.is (search rules) (search rules) c.if-not-numbers_fit.ensures.value in
    let h : Agrees node_count (tree n p (made + 1) left after.now) (Ok (c.in_ok-end-in-New.end, c.in_ok-end-in-New.count)) = search rules in
    new-node n p made left L c.in-New.field-0 after _ _ o.1.0 o.0 o.1.1 h

pub returns-in-Leaf-clause-value : goal.returns-in-Leaf-clause-value
returns-in-Leaf-clause-value t c =
    let w = c.args.self.now in
    let n = w.n in
    let p = w.p in
    let made = w.made in
    let left = w.left in
    let L = c.args.rest.now in
    let after = c.in_ok-first.after in
    elim c.in-Leaf.is [
      | inl (b, is) ↦ let o = taken n p made left L c.in_ok-first.first _ after is (search rules) (search rules) c.if-not-numbers_fit.ensures.value in leaf-node n p made left L b after o.0 o.1.1
      | inr is ↦ let o = taken n p made left L c.in_ok-first.first _ after is (search rules) (search rules) c.if-not-numbers_fit.ensures.value in none-node n p made left L after o.0
    ]
