use Rattle.std.proofs.Common.{rules}
use Rattle.std.proofs.lemmas.Slice.{overwrites}
use Rattle.source.proofs.rows.acts.copy_front.Goals as goal

pub returns : goal.returns
returns c = search (rules, overwrites)
