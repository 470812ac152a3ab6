use Rattle.tree.proofs.Sizes.{setting-within}
use Rattle.tree.proofs.known.Known.value_of.Goals as goal

pub value-requires-clause-small_setting : goal.value-requires-clause-small_setting
value-requires-clause-small_setting c = let s = c.args.self.now in setting-within s.made s.setting s.few s.small
