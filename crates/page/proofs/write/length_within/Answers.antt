use Rattle.std.proofs.Common.{◌≡◌, ◌+◌, ◌-◌, ◌≤◌, Some, None, take, sym, ap, ◌∙◌, arith}
use Rattle.std.proofs.lemmas.Bool.{cond-false, cond-true, le-leb, lt-leb}
use Rattle.std.proofs.lemmas.List.{take_all}
use Rattle.std.proofs.lemmas.List.Sums.{sum_by-take-le}
use Rattle.tree.specs.declared.node.Node.TheVariants.{Head}
use Rattle.page.specs.Records.{cost_of, cost_of_all}
use Rattle.page.proofs.Listing.{cost-more}
use Rattle.page.proofs.write.length_within.Goals as goal

pub returns-in_err-free : goal.returns-in_err-free
returns-in_err-free c =
    let xs = c.args.nodes.now in
    let more = cost-more xs c.loop-node.node-index (Head 0 0) c.loop-node-test.true in
    let part : cost_of_all (take (c.loop-node.node-index + 1) xs) ≤ cost_of_all xs = sum_by-take-le cost_of xs (c.loop-node.node-index + 1) in
    let short : (c.cost.result ≤ c.loop-node.free) → ⊥ = c.in_err-free.ensures in
    record { value = c.from_residual.ensures ∙ sym (cond-false _ (Some (cost_of_all xs)) None (lt-leb (cost_of_all xs) c.args.bytes (omega arith))) }

pub loop-node-preserved : goal.loop-node-preserved
loop-node-preserved c =
    let more = cost-more c.args.nodes.now c.loop-node.node-index (Head 0 0) c.loop-node-test.true in
    let left = c.in_ok-free.ensures in
    (omega arith, omega arith)

pub returns : goal.returns
returns c =
    let xs = c.args.nodes.now in
    let e = ap cost_of_all (take_all c.loop-node.node-index xs (omega arith)) in
    let is : c.args.bytes - c.loop-node.free ≡ cost_of_all xs = omega arith in
    record { value = ap Some is ∙ sym (cond-true _ (Some (cost_of_all xs)) None (le-leb (cost_of_all xs) c.args.bytes (omega arith))) }
