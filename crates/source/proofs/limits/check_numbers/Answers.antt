use Rattle.std.proofs.Common.{sym, rules}
use Rattle.source.proofs.Numbers.{none-outside}
use Rattle.source.proofs.limits.check_numbers.Goals as goal

pub returns-in-None : goal.returns-in-None
returns-in-None c = record { answer = search rules; report = search rules; small = none-outside 0 c.args.numbers.now (sym c.in-None.ensures.value) }
