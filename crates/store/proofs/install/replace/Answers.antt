use Rattle.std.proofs.Common.{◌≡◌, ℕ, Ok, sym, ap, ◌∙◌, arith}
use Rattle.store.specs.Stores.{install_answer}
use Rattle.store.proofs.Rooms.{put_next, install-room}
use Rattle.store.proofs.install.replace.Goals as goal

pub returns-in-Err : goal.returns-in-Err
returns-in-Err g c =
    let xs = c.args.nodes.now in
    let s = g.T.Store.meaning in
    let m = s c.begin-draft.new.self in
    let all : install_answer m xs ≡ Ok tt = ap (λ v. install_answer v xs) c.begin-draft.ensures.left ∙ sym c.in_ok-fits.ensures.answer in
    let p = put_next m (s c.loop-node.store) xs c.loop-node.node-index _ c.loop-node-test.true (install-room m xs all) c.loop-node.invariant.1 in
    let q = sym c.in-Err.is ∙ c.put.ensures.answer ∙ p.0 in
    let z : ◌≡◌ {A = ℕ} 0 1 = cc in
    absurd (omega arith)
