use Rattle.std.proofs.Common.{rules}
use Rattle.std.proofs.lemmas.List.{length-map}
use Rattle.base.proofs.Fill.{filled-all}
use Rattle.base.proofs.number.divide.Goals as goal

pub returns : goal.returns
returns c = search (rules, filled-all, length-map)
