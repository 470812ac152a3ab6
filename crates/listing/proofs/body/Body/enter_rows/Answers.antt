use Rattle.std.proofs.Common.{◌≡◌, ◌*◌, ◌<◌, length, take, drop, Err, ap, ◌∙◌, arith}
use Rattle.std.proofs.lemmas.List.{drop-take}
use Rattle.std.proofs.lemmas.Result.{err_from_is_err_and}
use Rattle.std.specs.Slice.Iter.{chunks_exact_rest, chunks_exact_size}
use Rattle.source.specs.Counted.{row_length, sizes_of}
use Rattle.source.specs.Enters.{enter_answer, entered}
use Rattle.source.specs.RowSources.{meaning_of}
use Rattle.listing.specs.Listings.{arrived, enter_all, rows_in, rows_of}
use Rattle.listing.proofs.RowSteps.{row-refused, row-taken, rows-front, rows_end}
use Rattle.listing.proofs.body.Body.enter_rows.Goals as goal

pub loop-row-init : goal.loop-row-init
loop-row-init c =
    let xs = c.args.self.now.numbers.now in
    let C = sizes_of c.args.self.now.counts in
    let w = row_length C in
    let m = C.m in
    let it = c.into_iter-row-iterator.result in
    let size : chunks_exact_size it ≡ w = ap chunks_exact_size c.into_iter-row-iterator.ensures.into_iter_gives ∙ c.chunks_exact-row-items.ensures.size ∙ c.row_length.ensures.value in
    let rest : chunks_exact_rest it ≡ take (m * w) (drop 1 xs) =
    ap chunks_exact_rest c.into_iter-row-iterator.ensures.into_iter_gives
    ∙ c.chunks_exact-row-items.ensures.rest
    ∙ c.split_at-2.ensures.back
    ∙ ap (drop 1) (c.split_at.ensures.front ∙ ap (λ n. take n xs) c.before_context.ensures.value)
    ∙ drop-take 1 (m * w) xs in
    let b = c.split_at.ensures.front_len in
    let d = c.split_at-2.ensures.back_len in
    let long : length (chunks_exact_rest it) ≡ m * w =
    ap length (ap chunks_exact_rest c.into_iter-row-iterator.ensures.into_iter_gives ∙ c.chunks_exact-row-items.ensures.rest)
    ∙ omega (arith, b, d, c.before_context.ensures.value) in
    (omega (arith, size), tt, size, (m, (long, ap (λ ys. enter_all (rows_of m w ys) (meaning_of c.args.source.now)) rest ∙ ap (λ rows. enter_all rows (meaning_of c.args.source.now)) (rows-front m w (drop 1 xs)))))

pub loop-row-preserved : goal.loop-row-preserved
loop-row-preserved c =
    let C = sizes_of c.args.self.now.counts in
    let w = row_length C in
    let i = c.loop-row.invariant in
    let q = c.in-Some.ensures.steps in
    let t = c.in_ok-enter.ensures in
    let outcome = enter_all (rows_in C c.args.self.now.numbers.now) (meaning_of c.args.source.now) in
    let e = q.0 ∙ i.2 in
    let leads = row-taken enter_answer entered w (chunks_exact_rest c.loop-row.row-iterator) c.in-Some.row.now (chunks_exact_rest c.next.new.self) (meaning_of c.loop-row.source) (meaning_of c.enter.new.self) outcome (omega arith) q.1.0 (q.1.1 ∙ i.2) t.answer t.left i.3 in
    (omega (arith, e), tt, e, leads)

pub returns-in_err-enter : goal.returns-in_err-enter
returns-in_err-enter c =
    let C = sizes_of c.args.self.now.counts in
    let w = row_length C in
    let i = c.loop-row.invariant in
    let q = c.in-Some.ensures.steps in
    let outcome = enter_all (rows_in C c.args.self.now.numbers.now) (meaning_of c.args.source.now) in
    let p = err_from_is_err_and c.from_residual.result c.from_residual.ensures.1 in
    let e = row-refused enter_answer entered w (chunks_exact_rest c.loop-row.row-iterator) c.in-Some.row.now (chunks_exact_rest c.next.new.self) (meaning_of c.loop-row.source) outcome c.in_err-enter.field-0.0 (omega arith) q.1.0 (q.1.1 ∙ i.2) c.in_err-enter.ensures.answer i.3 in
    record { answer = ap (arrived (meaning_of c.enter.new.self)) p.1 ∙ (ap Err p.2 ∙ e) }

pub returns : goal.returns
returns c =
    let C = sizes_of c.args.self.now.counts in
    let w = row_length C in
    let i = c.loop-row.invariant in
    let outcome = enter_all (rows_in C c.args.self.now.numbers.now) (meaning_of c.args.source.now) in
    let rest = chunks_exact_rest c.loop-row.row-iterator in
    let q = c.in-None.ensures.steps in
    let few : length rest < w = let a = q.1.0 in let b = i.2 in omega arith in
    record { answer = rows_end enter_answer entered w rest (meaning_of c.loop-row.source) outcome few i.3 }
