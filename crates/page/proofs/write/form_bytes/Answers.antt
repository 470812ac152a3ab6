use Rattle.std.proofs.Common.{◌≡◌, ℕ, ◌<◌, [], length, get_or, pos, arith, w32, SFits, rules}
use Rattle.page.specs.Words.{bytes}
use Rattle.page.proofs.Holding.{ten-to}
use Rattle.page.proofs.Written.{fit-all, mapped}
use Rattle.page.proofs.write.form_bytes.Goals as goal

pub returns : goal.returns
returns c =
    let C = c.args.form in
    let l : length C ≡ 10 = search rules in
    let each : (i : ℕ) → i < 10 → get_or c.map.result i [] ≡ bytes (get_or C i (pos 0)) = λ i h. let at = c.map.ensures.items.at i (pos 0) [] h in search rules in
    let fits : (i : ℕ) → i < length C → SFits w32 (get_or C i (pos 0)) = λ i h. let at = c.map.ensures.items.at i (pos 0) [] (omega arith) in search rules in
    record { value = mapped bytes C c.map.result 10 (pos 0) [] l c.map.ensures.items.long each; ten = ten-to C (l, fit-all C fits) }
