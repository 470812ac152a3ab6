use Rattle.std.proofs.Common.{drop, sym, ap, ◌∙◌}
use Rattle.listing.proofs.WordSteps.{blanks-dropped}
use Rattle.listing.proofs.word.after_blanks.Goals as goal

pub returns : goal.returns
returns c =
    let text = c.args.text.now in
    record { value = c.split_at.ensures.back ∙ ap (λ n. drop n text) c.blank_length.ensures.value ∙ sym (blanks-dropped text) }
