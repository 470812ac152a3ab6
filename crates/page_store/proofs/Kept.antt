-- What the fields of a page store say of its listed nodes.
use Rattle.std.proofs.Common.{◌≡◌, ℕ, ◌+◌, ◌<◌, ◌≤◌, List, length, get_or, vec_items, sym, ap, ◌∙◌, arith}
use Rattle.std.proofs.lemmas.List.{length-take-le}
use Rattle.tree.specs.declared.node.Node.{Node}
use Rattle.store.specs.Stores.{used}
use Rattle.page.specs.Records.{cost_of, nodes_in, page_of}
use Rattle.page_store.specs.Costs.{byte_costs}
use Rattle.page_store.specs.Listed.{length_by}
use Rattle.page_store.specs.PageStores.{offset_of}
use Rattle.page_store.specs.declared.page_store.PageStore.{PageStore}
use Rattle.page.proofs.Holding.{AllHoldable, all_from}
use Rattle.page.proofs.Listing.{length-page}
use Rattle.store.proofs.Rooms.{used-as}
use Rattle.page_store.proofs.Standing.{bytes-cost, leads}

abbrev pub listed : PageStore → List Node
listed s = nodes_in s.count (vec_items s.page)

pub all-held : (s : PageStore) → AllHoldable (listed s)
all-held s = all_from (listed s) s.numbers

pub length-listed : (s : PageStore) → length (page_of (listed s)) ≡ s.used
length-listed s = ap length (sym s.whole) ∙ length-take-le s.used (vec_items s.page) (omega arith)

pub used-is : (s : PageStore) → used byte_costs (listed s) ≡ s.used
used-is s = used-as byte_costs cost_of bytes-cost (listed s) ∙ sym (length-page (listed s) (all-held s)) ∙ length-listed s

-- a listed record's first byte leads to the next
pub next-offset : (s : PageStore) (place at : ℕ) → place < s.count → at ≡ offset_of s place →
    (at < s.used) × ((at + length_by (get_or (vec_items s.page) at 0) ≡ offset_of s (place + 1)) × (at + length_by (get_or (vec_items s.page) at 0) ≤ s.used))
next-offset s place at h is =
    let l : length (listed s) ≡ s.count = s.all in
    leads (vec_items s.page) s.used place at (listed s) (omega arith) s.whole (all-held s) (omega arith) is
