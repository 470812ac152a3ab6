use Rattle.std.proofs.Common.{◌∙◌, arith, rules}
use Rattle.tree.specs.declared.node.Node.TheVariants.{Head}
use Rattle.page.proofs.Listing.{cost-more, held-next, pasted-next}
use Rattle.page.proofs.write.put_all.Goals as goal

pub loop-node-preserved : goal.loop-node-preserved
loop-node-preserved c =
    let xs = c.args.nodes.now in
    let i = c.loop-node.node-index in
    let h = c.loop-node-test.true in
    let inv = c.loop-node.invariant.1 in
    let more = cost-more xs i (Head 0 0) h in
    let page = c.put_at.ensures.left ∙ pasted-next xs i (Head 0 0) c.args.page.now c.loop-node.page c.loop-node.at h inv.1.1 c.put_at.ensures.numbers inv.0 inv.1.0 in
    (omega arith, (omega arith, (search rules, held-next xs i (Head 0 0) h inv.1.1 c.put_at.ensures.numbers)))
