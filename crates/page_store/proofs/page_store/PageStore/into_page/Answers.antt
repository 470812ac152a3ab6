use Rattle.std.proofs.Common.{take, vec_items, refl, ap, ◌∙◌}
use Rattle.page_store.proofs.Kept.{used-is}
use Rattle.page_store.proofs.page_store.PageStore.into_page.Goals as goal

pub returns : goal.returns
returns c =
    let s = c.args.self in
    record { answer = refl; listed = ap (λ n. take n (vec_items s.page)) (used-is s) ∙ s.whole }
