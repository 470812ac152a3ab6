use Rattle.std.proofs.Common.{◌≡◌, ◌<◌, true, false, Ok, Err, sym, ap, ◌∙◌, subst, arith, rules}
use Rattle.std.proofs.lemmas.Result.{err_from_is_err_and}
use Rattle.page.specs.declared.record.Flaw.{Flaw}
use Rattle.page.specs.Fits.{form_fits}
use Rattle.page.specs.Readings.{keeps}
use Rattle.page.specs.Records.{opened}
use Rattle.page.specs.Ties.{Agrees, Reads, keep_count}
use Rattle.page.specs.Words.{words}
use Rattle.page.proofs.Checking.{keep-read, keeps-err, keeps-flawed, keeps-full, keeps-more, keeps-over, keeps-unfit}
use Rattle.page.proofs.check.+keeps.Goals as goal
use Rattle.page.proofs.check.+keeps.Goals.{then-more-eq0-via-then-more-eq0, then-more-eq0-via-else-more-eq0+then-not-is_keep}

pub returns-then-more-eq0-clause-value : goal.returns-then-more-eq0-clause-value
returns-then-more-eq0-clause-value t c =
    elim c.then-more-eq0.branch [
      | then-more-eq0-via-then-more-eq0 w ↦ keeps-full c.args.p c.args.more c.args.rest w.if-more-eq0.true
      | then-more-eq0-via-else-more-eq0+then-not-is_keep w ↦ keeps-over c.args.p c.args.more c.args.rest w.if-not-is_keep.ensures.value
    ]

pub returns-in_err-first-clause-value : goal.returns-in_err-first-clause-value
returns-in_err-first-clause-value t c =
    let L = c.args.rest.now in
    let e = err_from_is_err_and c.from_residual.result c.from_residual.ensures.1 in
    let f : (flaw : Flaw) × ((c.in_err-first.field-0.0 ≡ record { flaw = flaw; at = c.args.rest }) × (c.read.result ≡ Err flaw)) = search rules in
    let s = subst (Reads (opened L)) f.1.1 c.read.ensures.reads in
    let some : 0 < c.args.more = omega (arith, c.if-more-eq0.false) in
    subst (Agrees keep_count (keeps c.args.p c.args.more L)) (sym (e.1 ∙ ap Err (e.2 ∙ f.1.0))) (keeps-flawed c.args.p c.args.more c.args.rest f.0 some c.if-not-is_keep.ensures.value s)

pub returns-then-not-form_fits-clause-value : goal.returns-then-not-form_fits-clause-value
returns-then-not-form_fits-clause-value t c =
    let b = c.in-Keep.body in
    let s : Reads (opened c.args.rest.now) (Ok (c.in_ok-first.first, c.in_ok-first.after)) = search rules in
    let o = subst (λ r. Reads (opened c.args.rest.now) (Ok (r, c.in_ok-first.after))) c.in-Keep.is s in
    let w : false ≡ form_fits c.args.p 0 (words 10 b.now) = search rules in
    let some : 0 < c.args.more = omega (arith, c.if-more-eq0.false) in
    keeps-unfit c.args.p c.args.more c.args.rest b c.in_ok-first.after some c.if-not-is_keep.ensures.value o w

pub returns-in_err-end-in-Keep-clause-value : goal.returns-in_err-end-in-Keep-clause-value
returns-in_err-end-in-Keep-clause-value t c =
    let b = c.in-Keep.body in
    let s : Reads (opened c.args.rest.now) (Ok (c.in_ok-first.first, c.in_ok-first.after)) = search rules in
    let o = subst (λ r. Reads (opened c.args.rest.now) (Ok (r, c.in_ok-first.after))) c.in-Keep.is s in
    let w : true ≡ form_fits c.args.p 0 (words 10 b.now) = search rules in
    let some : 0 < c.args.more = omega (arith, c.if-more-eq0.false) in
    let e = err_from_is_err_and c.from_residual-in_err-end-in-Keep.result c.from_residual-in_err-end-in-Keep.ensures.1 in
    keeps-err c.args.p c.args.more c.args.rest.now b c.in_ok-first.after _ _ some c.if-not-is_keep.ensures.value o w c.in_err-end-in-Keep.ensures.value (e.1 ∙ ap Err e.2)

pub returns-in_ok-end-in-Keep-clause-value : goal.returns-in_ok-end-in-Keep-clause-value
returns-in_ok-end-in-Keep-clause-value t c =
    let b = c.in-Keep.body in
    let s : Reads (opened c.args.rest.now) (Ok (c.in_ok-first.first, c.in_ok-first.after)) = search rules in
    let o = subst (λ r. Reads (opened c.args.rest.now) (Ok (r, c.in_ok-first.after))) c.in-Keep.is s in
    let w : true ≡ form_fits c.args.p 0 (words 10 b.now) = search rules in
    let some : 0 < c.args.more = omega (arith, c.if-more-eq0.false) in
    keeps-more c.args.p c.args.more c.args.rest.now b c.in_ok-first.after _ _ some c.if-not-is_keep.ensures.value o w c.in_ok-end-in-Keep.ensures.value

pub returns-in_default : goal.returns-in_default
returns-in_default t c =
    let s : Reads (opened c.args.rest.now) (Ok (c.in_ok-first.first, c.in_ok-first.after)) = search rules in
    keep-read c.args.rest.now (c.in_ok-first.first, c.in_ok-first.after) _ c.if-not-is_keep.ensures.value s c.in_default.not-Keep
