use Rattle.std.proofs.Common.{◌≡◌, ℕ, ◌*◌, ◌<◌, [], length, get_or, drop}
use Rattle.page.specs.Words.{words}
use Rattle.page.proofs.number.forms_of.Given as goal

abbrev pub invariant-loop-k : goal.invariant-loop-k
invariant-loop-k l = (length l.forms ≡ 6) × ((k : ℕ) → k < l.k → get_or l.forms k [] ≡ words 10 (drop (40 * k) l.bytes))
