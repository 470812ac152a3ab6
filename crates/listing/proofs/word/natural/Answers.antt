use Rattle.std.proofs.Common.{◌≡◌, ℕ, ◌≤◌, true, ◌&&◌, leb, List, length, arith, rules}
use Rattle.std.proofs.lemmas.Bool.{and_parts, leb-true}
use Rattle.listing.proofs.WordSteps.{nine-fit}
use Rattle.listing.proofs.word.natural.Goals as goal

abbrev counted : List ℕ → Type 0
counted ds = (leb 1 (length ds) && leb (length ds) 9) ≡ true

few : (ds : List ℕ) → counted ds → length ds ≤ 9
few ds t = leb-true _ _ (and_parts _ _ t).1

pub overflow_mul-x : goal.overflow_mul-x
overflow_mul-x c =
    let k : length c.args.digits.now ≤ 9 = few _ (search rules) in
    let h = nine-fit c.loop-b.b-index c.loop-b.x 0 c.loop-b.invariant.1 (omega arith) (omega arith) in
    search rules

pub overflow_add-x : goal.overflow_add-x
overflow_add-x c =
    let k : length c.args.digits.now ≤ 9 = few _ (search rules) in
    let h = nine-fit c.loop-b.b-index c.loop-b.x c.in_ok-x.field-0 c.loop-b.invariant.1 (omega arith) c.in_ok-x.ensures.small in
    search rules
