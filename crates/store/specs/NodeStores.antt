-- What a node store stands for: the first nodes of its table, each at one unit.
use Rattle.std.specs.Prelude.{take, vec_items, vec_len}
use Rattle.store.specs.Stores.{Costs, Meaning}
use Rattle.store.specs.declared.node_store.NodeStore.{NodeStore}

abbrev pub unit_costs : Costs
unit_costs = record { of_head = 1; of_keep = 1; of_split = 1; of_new = 1; of_leaf = 1; of_none = 1 }

abbrev pub meaning_of : NodeStore → Meaning
meaning_of s =
    record { nodes = take s.count (vec_items s.table); is_open = s.gate.is_open; capacity = vec_len s.table; costs = unit_costs }
