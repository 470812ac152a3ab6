use Rattle.std.proofs.Common.{◌≡◌, ◌<◌, length, get_or, take, drop, vec_items, ap, ◌∙◌, arith}
use Rattle.tree.specs.declared.node.Node.TheVariants.{None}
use Rattle.page.specs.Records.{page_of}
use Rattle.page.proofs.Holding.{holdable-to}
use Rattle.page_store.proofs.Kept.{all-held, length-listed, listed}
use Rattle.page_store.proofs.Standing.{holdable-at, offset-within, stands}
use Rattle.page_store.proofs.page_store.acts.PageStoreStore.node.Goals as goal

pub node_from-requires : goal.node_from-requires
node_from-requires c =
    let s = c.args.self.now in
    let page = vec_items s.page in
    let xs = listed s in
    let e = length-listed s in
    let w = offset-within c.args.place xs in
    let a = c.offset-at.ensures.answer in
    let v = ap length c.as_slice.ensures.value in
    omega arith

pub returns-then-place-self : goal.returns-then-place-self
returns-then-place-self c =
    let s = c.args.self.now in
    let page = vec_items s.page in
    let xs = listed s in
    let l : length xs ≡ s.count = s.all in
    let h : c.args.place < length xs = omega arith in
    let x = get_or xs c.args.place None in
    let a : c.offset-at.result ≡ length (page_of (take c.args.place xs)) = c.offset-at.ensures.answer in
    let e = ap (drop c.offset-at.result) c.as_slice.ensures.value ∙ ap (λ k. drop k page) a ∙ stands page s.used c.args.place xs None s.whole h in
    record { answer = c.node_from.ensures.value x _ (holdable-to x (holdable-at xs c.args.place None h (all-held s))) e }
