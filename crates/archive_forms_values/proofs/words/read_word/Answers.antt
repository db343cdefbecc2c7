use Rattle.std.proofs.Common.{sym, ◌∙◌}
use Rattle.archive_shape.proofs.Words.{word_of_bytes}
use Rattle.archive_forms_values.proofs.words.read_word.Goals as goal

pub returns : goal.returns
returns c = c.from_le_bytes.ensures ∙ sym (word_of_bytes c.args.bytes.now c.args.pos)
