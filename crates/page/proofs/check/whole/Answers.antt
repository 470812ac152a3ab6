use Rattle.std.proofs.Common.{true-eqb, false-eqb}
use Rattle.page.proofs.Checking.{whole-done, whole-over}
use Rattle.page.proofs.check.whole.Goals as goal

pub returns-then-is_empty : goal.returns-then-is_empty
returns-then-is_empty c =
    let k = c.in_ok-below.ensures in
    let e = c.in_ok-end.ensures in
    record { value = whole-done c.args.page.now c.in_ok-top.top (c.in_ok-below.below, c.in_ok-below.kept) (c.in_ok-end.end, c.in_ok-end.count) c.in_ok-top.ensures.value k.value e.value (true-eqb _ 0 c.if-is_empty.ensures) }

pub returns-else-is_empty : goal.returns-else-is_empty
returns-else-is_empty c =
    let k = c.in_ok-below.ensures in
    let e = c.in_ok-end.ensures in
    record { value = whole-over c.args.page.now c.in_ok-top.top (c.in_ok-below.below, c.in_ok-below.kept) (c.in_ok-end.end, c.in_ok-end.count) c.in_ok-top.ensures.value k.value k.inside e.value e.inside (false-eqb _ 0 c.if-is_empty.ensures) }
