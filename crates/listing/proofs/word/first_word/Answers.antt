use Rattle.std.proofs.Common.{◌≡◌, take, drop, sym, ap, ◌∙◌}
use Rattle.listing.specs.Words.{word_length}
use Rattle.listing.proofs.WordSteps.{word-found}
use Rattle.listing.proofs.word.first_word.Goals as goal

pub returns : goal.returns
returns c =
    let from = c.after_blanks-from.result.now in
    let f = c.after_blanks-from.ensures.value in
    let n : c.word_length.result ≡ word_length from = c.word_length.ensures.value ∙ sym (word-found from) in
    record {
      word = c.split_at.ensures.front ∙ ap (λ k. take k from) n ∙ ap (λ t. take (word_length t) t) f;
      rest = c.split_at.ensures.back ∙ ap (λ k. drop k from) n ∙ ap (λ t. drop (word_length t) t) f;
    }
