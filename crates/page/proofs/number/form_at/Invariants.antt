use Rattle.std.proofs.Common.{◌≡◌, ℕ, ◌+◌, ◌*◌, ◌<◌, length, get_or, drop, pos}
use Rattle.page.specs.Words.{word}
use Rattle.page.proofs.number.form_at.Given as goal

abbrev pub invariant-loop-k : goal.invariant-loop-k
invariant-loop-k l = (length l.form ≡ 10) × ((k : ℕ) → k < l.k → get_or l.form k (pos 0) ≡ word (drop (l.at + 4 * k) l.bytes))
