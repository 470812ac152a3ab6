use Rattle.std.proofs.Common.{◌≡◌, ◌+◌, get_or, vec_items, vec_len, ap, ◌∙◌, arith}
use Rattle.std.proofs.lemmas.List.{get_or_read_under}
use Rattle.page_store.specs.Listed.{length_by}
use Rattle.page_store.proofs.Kept.{next-offset}
use Rattle.page_store.proofs.page_store.PageStore.offset.Goals as goal

pub index-requires : goal.index-requires
index-requires c = let q = next-offset c.args.self.now c.loop.counter c.loop.at (omega arith) c.loop.invariant in omega (arith, q.0)

-- the record's length, by the byte that was read
stepped : (c : goal.After-length_of-at) → c.length_of-at.result ≡ length_by (get_or (vec_items c.args.self.now.page) c.loop.at 0)
stepped c =
    let s = c.args.self.now in
    let q = next-offset s c.loop.counter c.loop.at (omega arith) c.loop.invariant in
    let within = q.0 in
    let b : c.index.result.now ≡ get_or (vec_items s.page) c.loop.at 0 = get_or_read_under (vec_items s.page) c.loop.at (vec_len s.page) _ 0 c.index.ensures (omega arith) s.page.ok.0 in
    c.length_of-at.ensures.value ∙ ap length_by b

pub overflow_add-at : goal.overflow_add-at
overflow_add-at c =
    let q = next-offset c.args.self.now c.loop.counter c.loop.at (omega arith) c.loop.invariant in
    let e = stepped c in
    record { fits = omega (arith, q.1.1) }

pub loop-preserved : goal.loop-preserved
loop-preserved c =
    let q = next-offset c.args.self.now c.loop.counter c.loop.at (omega arith) c.loop.invariant in
    ap (λ n. c.loop.at + n) (stepped c) ∙ q.1.0
