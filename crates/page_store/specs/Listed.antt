-- Where the records of the listed nodes stand in a page.
use Rattle.std.specs.Prelude.{◌≡◌, ℕ, ◌<◌, List, length, take, Some, None, Option, slice_index}
use Rattle.tree.specs.declared.node.Node.{Node}
use Rattle.page.specs.Records.{Kind, kind_of, page_of, record_length}

-- the index has the offset of each listed node that it has a place for
abbrev pub Indexed : List ℕ → List Node → Type 0
Indexed index xs = (k : ℕ) → k < length xs → k < length index → slice_index index k ≡ length (page_of (take k xs))

-- how many bytes a record has, by its first one (1 where that is no kind)
abbrev pub length_as : Option Kind → ℕ
length_as (Some k) = record_length k
length_as None = 1

abbrev pub length_by : ℕ → ℕ
length_by b = length_as (kind_of b)
