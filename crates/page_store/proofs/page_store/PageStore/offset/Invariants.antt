use Rattle.std.proofs.Common.{◌≡◌}
use Rattle.page_store.specs.PageStores.{offset_of}
use Rattle.page_store.proofs.page_store.PageStore.offset.Given as goal

abbrev pub invariant-loop : goal.invariant-loop
invariant-loop l = l.at ≡ offset_of l.self l.counter
