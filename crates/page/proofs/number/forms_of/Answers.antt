use Rattle.std.proofs.Common.{◌/◌, ◌<◌, ◌≤◌, ◌≡◌, ◌≢◌, [], length, get_or, take, ap, ◌∙◌, arith, length-set, get_or-set_other, get_or-set_same, below_more}
use Rattle.std.proofs.lemmas.List.{get_or-take, length-take-le}
use Rattle.page.specs.Words.{words}
use Rattle.page.proofs.Chunks.{form-at}
use Rattle.page.proofs.Words.{forms-all}
use Rattle.page.proofs.number.forms_of.Goals as goal

pub loop-k-preserved : goal.loop-k-preserved
loop-k-preserved c =
    let b = c.args.bytes.now in
    let k = c.loop-k.k in
    let chunks = c.as_chunks.result.0.now in
    let many : 6 ≤ length chunks = omega (arith, c.as_chunks.ensures.front_len, c.requires.inside) in
    let six : length (take 6 chunks) ≡ 6 = length-take-le 6 chunks many in
    let few : k < 6 = omega (arith, six, c.loop-k-test.true) in
    let h : k < length b / 40 = omega (arith, few, c.as_chunks.ensures.front_len, c.requires.inside) in
    let e = c.form_of.ensures.value ∙ ap (words 10) (get_or-take 6 chunks k [] few) ∙ ap (λ cs. words 10 (get_or cs k [])) c.as_chunks.ensures.front ∙ form-at (length b / 40) b k h in (
      length-set c.loop-k.forms _ _ ∙ c.loop-k.invariant.0,
      below_more _ _
          (λ j l. let ne : j ≢ k = omega arith in rw get_or-set_other (c.loop-k.invariant.1 j l))
          (let lt : k < length c.loop-k.forms = omega (arith, few, c.loop-k.invariant.0) in rw get_or-set_same e),
    )

pub returns : goal.returns
returns c =
    let b = c.args.bytes.now in
    let chunks = c.as_chunks.result.0.now in
    let many : 6 ≤ length chunks = omega (arith, c.as_chunks.ensures.front_len, c.requires.inside) in
    let six : length (take 6 chunks) ≡ 6 = length-take-le 6 chunks many in
    record { value = forms-all 6 b c.loop-k.forms [] c.loop-k.invariant.0 (λ k h. c.loop-k.invariant.1 k (omega (arith, six, h, c.loop-k-test.false))) }
