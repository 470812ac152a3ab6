-- What the store without room stands for.
use Rattle.std.specs.Prelude.{[]}
use Rattle.store.specs.Stores.{Meaning}
use Rattle.store.specs.NodeStores.{unit_costs}
use Rattle.drafts.specs.declared.nothing.Nothing.{Nothing}

abbrev pub meaning_of : Nothing → Meaning
meaning_of s = record { nodes = []; is_open = s.gate.is_open; capacity = 0; costs = unit_costs }
