use Rattle.std.proofs.Common.{◌^◌, ◌≤◌, nat_abs, ◌+◌, drop, get_or, ap, w64, SFits, of_z, rules}
use Rattle.std.proofs.lemmas.List.{at_drop_more, get_or_default}
use Rattle.std.proofs.lemmas.Int.{to_z-of_z}
use Rattle.base.specs.Numbers.{at}
use Rattle.base.proofs.There.{forth}
use Rattle.tableau.specs.Columns.{beats}
use Rattle.tableau.specs.Tables.{no_row, top}
use Rattle.tableau.proofs.Bits.{product-bits, same_bits}
use Rattle.tableau.proofs.Searches.{less-differ, less-same, top-sound}
use Rattle.tableau.proofs.column.beats.Goals as goal

pub times-y-requires-clause-small_x : goal.times-y-requires-clause-small_x
times-y-requires-clause-small_x c =
    let t = c.args.t.now in
    let k = c.loop-h.h-index in
    let h = get_or (top t) k no_row in
    let s = top-sound t c.requires.ready h k c.loop-h-test.true (get_or_default (top t) k no_row h c.loop-h-test.true) in
    forth (λ z. nat_abs z ≤ 2 ^ 30) (at h.coefs c.args.l) (search rules) (s.coefs_small c.args.l)

pub returns-then-x-y : goal.returns-then-x-y
returns-then-x-y c =
    let hs = top c.args.t.now in
    let i = c.args.i.now in
    let k = c.loop-h.h-index in
    let h = get_or hs k no_row in
    let j = c.args.j in
    let l = c.args.l in
    let x = product-bits c.times-x.result (at h.coefs j) (at i.coefs l) (search rules) (search rules) c.times-x.ensures.value in
    let y = product-bits c.times-y.result (at h.coefs l) (at i.coefs j) (search rules) (search rules) c.times-y.ensures.value in
    let fx : SFits w64 c.times-x.result = search rules in
    let fy : SFits w64 c.times-y.result = search rules in
    let more = at_drop_more (λ hs. beats hs i j l) hs k no_row c.loop-h-test.true in
    let zx = to_z-of_z w64 c.times-x.result fx in
    let zy = to_z-of_z w64 c.times-y.result fy in
    let first = less-differ c.times-x.result c.times-y.result (beats (drop (k + 1) hs) i j l) (λ e. c.if-x-y.true (ap (of_z w64) e)) in
    cc

pub loop-h-preserved : goal.loop-h-preserved
loop-h-preserved c =
    let hs = top c.args.t.now in
    let i = c.args.i.now in
    let k = c.loop-h.h-index in
    let h = get_or hs k no_row in
    let j = c.args.j in
    let l = c.args.l in
    let x = product-bits c.times-x.result (at h.coefs j) (at i.coefs l) (search rules) (search rules) c.times-x.ensures.value in
    let y = product-bits c.times-y.result (at h.coefs l) (at i.coefs j) (search rules) (search rules) c.times-y.ensures.value in
    let fx : SFits w64 c.times-x.result = search rules in
    let fy : SFits w64 c.times-y.result = search rules in
    let more = at_drop_more (λ hs. beats hs i j l) hs k no_row c.loop-h-test.true in
    let same = same_bits c.times-x.result c.times-y.result fx fy c.if-x-y.false in
    let first = less-same c.times-x.result c.times-y.result (beats (drop (k + 1) hs) i j l) same in
    cc
