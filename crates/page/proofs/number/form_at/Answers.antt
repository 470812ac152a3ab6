use Rattle.std.proofs.Common.{◌*◌, ◌<◌, ◌≢◌, length, drop, pos, sym, ap, ◌∙◌, arith, length-set, get_or-set_other, get_or-set_same, to_z-of_z, w32, SFits, rules, below_more}
use Rattle.std.proofs.lemmas.List.{drop-drop}
use Rattle.page.specs.Words.{word}
use Rattle.page.proofs.Words.{words-all}
use Rattle.page.proofs.number.form_at.Goals as goal

pub loop-k-preserved : goal.loop-k-preserved
loop-k-preserved c =
    let f : SFits w32 c.word_at.result = search rules in (
      length-set c.loop-k.form _ _ ∙ c.loop-k.invariant.0,
      below_more _ _
          (λ k h. let ne : k ≢ c.loop-k.k = omega arith in rw get_or-set_other (c.loop-k.invariant.1 k h))
          (let lt : c.loop-k.k < length c.loop-k.form = omega arith in rw get_or-set_same (to_z-of_z {w = w32} f ∙ c.word_at.ensures.value)),
    )

pub returns : goal.returns
returns c =
    let b = c.args.bytes.now in
    let at = c.args.at in
    record { value = words-all 10 (drop at b) _ (pos 0) c.loop-k.invariant.0 (λ k h. c.loop-k.invariant.1 k (omega arith) ∙ ap word (sym (drop-drop (4 * k) at b))) }
