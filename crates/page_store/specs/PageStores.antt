-- What a page store stands for: the nodes of its first records, each at the bytes of its record.
use Rattle.std.specs.Prelude.{ℕ, cond, List, is_ok, length, take, vec_items, vec_len}
use Rattle.tree.specs.declared.node.Node.{Node}
use Rattle.store.specs.Stores.{Meaning, put_answer}
use Rattle.page.specs.Records.{nodes_in, page_of, pasted, record_of}
use Rattle.page_store.specs.Costs.{byte_costs}
use Rattle.page_store.specs.declared.page_store.PageStore.{PageStore}

abbrev pub meaning_of : PageStore → Meaning
meaning_of s =
    record { nodes = nodes_in s.count (vec_items s.page); is_open = s.gate.is_open; capacity = vec_len s.page; costs = byte_costs }

-- where the record of the listed node at a place begins
abbrev pub offset_of : PageStore → ℕ → ℕ
offset_of s place = length (page_of (take place (nodes_in s.count (vec_items s.page))))

-- the bytes of its page: the listed part, and what comes after it
abbrev pub bytes_of : PageStore → List ℕ
bytes_of s = vec_items s.page

-- a put that is accepted writes the node's record after the listed part, and no other byte
abbrev pub bytes_after_put : PageStore → Node → List ℕ
bytes_after_put s x = cond (is_ok (put_answer (meaning_of s) x)) (pasted (length (page_of (meaning_of s).nodes)) (record_of x) (bytes_of s)) (bytes_of s)
