use Rattle.std.proofs.Common.{sym, ◌∙◌, to_z-of_z, w32}
use Rattle.page.proofs.Words.{word-drop}
use Rattle.page.proofs.number.word_at.Goals as goal

pub returns : goal.returns
returns c = record { value = to_z-of_z {w = w32} (record { sfits = c.from_be_bytes.type_inv }) ∙ c.from_be_bytes.ensures ∙ sym (word-drop c.args.bytes.now c.args.at) }
