use Rattle.std.proofs.Common.{◌/◌, ◌<◌, ◌≢◌, [], length, get_or, pos, ap, ◌∙◌, arith, length-set, get_or-set_other, get_or-set_same, to_z-of_z, w32, SFits, rules, below_more}
use Rattle.page.specs.Words.{word}
use Rattle.page.proofs.Chunks.{word-at}
use Rattle.page.proofs.Words.{words-all}
use Rattle.page.proofs.number.form_of.Goals as goal

pub loop-k-preserved : goal.loop-k-preserved
loop-k-preserved c =
    let b = c.args.bytes.now in
    let k = c.loop-k.k in
    let f : SFits w32 c.word_of.result = search rules in
    let h : k < length b / 4 = omega (arith, c.loop-k-test.true, c.as_chunks.ensures.front_len) in
    let e = to_z-of_z {w = w32} f ∙ c.word_of.ensures.value ∙ ap (λ cs. word (get_or cs k [])) c.as_chunks.ensures.front ∙ word-at (length b / 4) b k h in (
      length-set c.loop-k.form _ _ ∙ c.loop-k.invariant.0,
      below_more _ _
          (λ j l. let ne : j ≢ k = omega arith in rw get_or-set_other (c.loop-k.invariant.1 j l))
          (let lt : k < length c.loop-k.form = omega (arith, h, c.told-bytes, c.loop-k.invariant.0) in rw get_or-set_same e),
    )

pub returns : goal.returns
returns c =
    let b = c.args.bytes.now in
    let e = c.as_chunks.ensures.front_len in
    record { value = words-all 10 b c.loop-k.form (pos 0) c.loop-k.invariant.0 (λ k h. c.loop-k.invariant.1 k (omega (arith, e, c.told-bytes, c.loop-k-test.false))) }
