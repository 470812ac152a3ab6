use Rattle.std.proofs.Common.{◌<◌, length, Err, ap, ◌∙◌, arith}
use Rattle.std.proofs.lemmas.Result.{err_from_is_err_and}
use Rattle.std.specs.Slice.Iter.{chunks_exact_rest}
use Rattle.source.specs.Counted.{context_row_length, sizes_of}
use Rattle.source.specs.Enters.{confine_answer, confined}
use Rattle.source.specs.RowSources.{meaning_of}
use Rattle.listing.specs.Listings.{arrived, confine_all, context_rows_in}
use Rattle.listing.proofs.RowSteps.{row-refused, row-taken, rows_end}
use Rattle.listing.proofs.body.Body.confine_rows.Goals as goal

pub loop-row-preserved : goal.loop-row-preserved
loop-row-preserved c =
    let C = sizes_of c.args.self.now.counts in
    let w = context_row_length C in
    let i = c.loop-row.invariant in
    let q = c.in-Some.ensures.steps in
    let t = c.in_ok-confine.ensures in
    let outcome = confine_all (context_rows_in C c.args.self.now.numbers.now) (meaning_of c.args.source.now) in
    let e = q.0 ∙ i.2 in
    let leads = row-taken confine_answer confined w (chunks_exact_rest c.loop-row.row-iterator) c.in-Some.row.now (chunks_exact_rest c.next.new.self) (meaning_of c.loop-row.source) (meaning_of c.confine.new.self) outcome (omega arith) q.1.0 (q.1.1 ∙ i.2) t.answer t.left i.3 in
    (omega (arith, e), tt, e, leads)

pub returns-in_err-confine : goal.returns-in_err-confine
returns-in_err-confine c =
    let C = sizes_of c.args.self.now.counts in
    let w = context_row_length C in
    let i = c.loop-row.invariant in
    let q = c.in-Some.ensures.steps in
    let outcome = confine_all (context_rows_in C c.args.self.now.numbers.now) (meaning_of c.args.source.now) in
    let p = err_from_is_err_and c.from_residual.result c.from_residual.ensures.1 in
    let e = row-refused confine_answer confined w (chunks_exact_rest c.loop-row.row-iterator) c.in-Some.row.now (chunks_exact_rest c.next.new.self) (meaning_of c.loop-row.source) outcome c.in_err-confine.field-0.0 (omega arith) q.1.0 (q.1.1 ∙ i.2) c.in_err-confine.ensures.answer i.3 in
    record { answer = ap (arrived (meaning_of c.confine.new.self)) p.1 ∙ (ap Err p.2 ∙ e) }

pub returns : goal.returns
returns c =
    let C = sizes_of c.args.self.now.counts in
    let w = context_row_length C in
    let i = c.loop-row.invariant in
    let outcome = confine_all (context_rows_in C c.args.self.now.numbers.now) (meaning_of c.args.source.now) in
    let rest = chunks_exact_rest c.loop-row.row-iterator in
    let q = c.in-None.ensures.steps in
    let few : length rest < w = let a = q.1.0 in let b = i.2 in omega arith in
    record { answer = rows_end confine_answer confined w rest (meaning_of c.loop-row.source) outcome few i.3 }
