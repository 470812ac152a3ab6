use Rattle.std.proofs.Common.{◌≡◌, ℕ, ◌+◌, ◌<◌, [], get_or, take, Ok, Err, sym, ap, ◌∙◌, arith, rules}
use Rattle.std.proofs.lemmas.Result.{err_from_is_err_and}
use Rattle.base.specs.Numbers.{at}
use Rattle.source.specs.Limits.{numbers_answer}
use Rattle.solver.specs.Solves.{fitted, row_of}
use Rattle.base.specs.Refusals.{and_then}
use Rattle.solver.proofs.Reading.{fitted-asked}
use Rattle.solver.proofs.read.read_row.Goals as goal

pub returns-in_err-row-clause-answer : goal.returns-in_err-row-clause-answer
returns-in_err-row-clause-answer g c =
    let all = get_or (g.S.Source.meaning c.args.source.now).rows c.args.i [] in
    let w = c.row_length-width.result in
    let numbers = c.numbers_of-numbers.result in
    let asked : (j : ℕ) → j < w → at numbers j ≡ at all j = λ j h. let e = c.numbers_of-numbers.ensures.asked j (omega arith) h in search rules in
    let front : take w numbers ≡ fitted (c.args.c.n + c.args.c.p + 1) all = fitted-asked w numbers all (omega arith) asked ∙ ap (λ m. fitted m all) c.row_length-width.ensures.value in
    let q = err_from_is_err_and c.from_residual.result c.from_residual.ensures.1 in
    let e : numbers_answer (c.args.i) (fitted (c.args.c.n + c.args.c.p + 1) all) ≡ Err c.in_err-row.field-0.0 = ap (numbers_answer (c.args.i)) (sym front) ∙ c.in_err-row.ensures.answer in
    q.1 ∙ ap Err q.2 ∙ sym (ap (λ a. and_then a (Ok (row_of c.args.c.n c.args.c.p (fitted (c.args.c.n + c.args.c.p + 1) all)))) e)

pub returns-clause-answer : goal.returns-clause-answer
returns-clause-answer g c =
    let all = get_or (g.S.Source.meaning c.args.source.now).rows c.args.i [] in
    let w = c.row_length-width.result in
    let numbers = c.numbers_of-numbers.result in
    let asked : (j : ℕ) → j < w → at numbers j ≡ at all j = λ j h. let e = c.numbers_of-numbers.ensures.asked j (omega arith) h in search rules in
    let front : take w numbers ≡ fitted (c.args.c.n + c.args.c.p + 1) all = fitted-asked w numbers all (omega arith) asked ∙ ap (λ m. fitted m all) c.row_length-width.ensures.value in
    let e : numbers_answer (c.args.i) (fitted (c.args.c.n + c.args.c.p + 1) all) ≡ Ok tt = ap (numbers_answer (c.args.i)) (sym front) ∙ c.in_ok-row.ensures.answer.0 in
    ap Ok (c.row.ensures.value ∙ ap (row_of c.args.c.n c.args.c.p) (c.in_ok-row.ensures.answer.1 ∙ front)) ∙ sym (ap (λ a. and_then a (Ok (row_of c.args.c.n c.args.c.p (fitted (c.args.c.n + c.args.c.p + 1) all)))) e)
