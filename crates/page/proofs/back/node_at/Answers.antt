use Rattle.std.proofs.Common.{◌-◌, length, get_or, ap, ◌∙◌, arith}
use Rattle.tree.specs.declared.node.Node.TheVariants.{None as Blank}
use Rattle.page.proofs.Regained.{arrived, page-back, ran_out, went_on}
use Rattle.page.proofs.back.node_at.Goals as goal

pub returns-in_default : goal.returns-in_default
returns-in_default c =
    let e = ran_out (length c.args.page.now - c.loop.counter) (c.args.i - c.loop.counter) c.loop.rest.now c.in_default.field-0 _ c.in_default.ensures.reads c.loop.invariant.1 in
    record { value = e; law = λ w i. e ∙ ap (λ xs. get_or xs c.args.i Blank) (page-back c.args.page.now w i) }

pub loop-preserved : goal.loop-preserved
loop-preserved c =
    went_on (length c.args.page.now) c.args.i c.loop.counter c.loop.rest.now _ _ c.loop.invariant.0 (omega arith) c.in-Ok.ensures.reads c.in-Ok.ensures.shorter c.loop.invariant.1

pub returns-in-Err : goal.returns-in-Err
returns-in-Err c =
    let e = ran_out (length c.args.page.now - c.loop.counter) (c.args.i - c.loop.counter) c.loop.rest.now c.in-Err.field-0 _ c.in-Err.ensures.reads c.loop.invariant.1 in
    record { value = e; law = λ w i. e ∙ ap (λ xs. get_or xs c.args.i Blank) (page-back c.args.page.now w i) }

pub returns-in-Ok-read : goal.returns-in-Ok-read
returns-in-Ok-read c =
    let e = arrived (length c.args.page.now) c.args.i c.loop.counter c.loop.rest.now _ _ c.node_of.result c.loop.invariant.0 (omega arith) c.in-Ok-read.ensures.reads c.in-Ok-read.ensures.shorter c.node_of.ensures.value c.loop.invariant.1 in
    record { value = e; law = λ w i. e ∙ ap (λ xs. get_or xs c.args.i Blank) (page-back c.args.page.now w i) }
