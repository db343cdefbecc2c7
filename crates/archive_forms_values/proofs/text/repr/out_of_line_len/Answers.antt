use Rattle.std.proofs.Common.{◌≡◌, ap, ◌∙◌, sym}
use Rattle.archive_shape_layout.specs.Bytes.{word_at}
use Rattle.archive_shape_layout.specs.Content.{text_length}
use Rattle.archive_shape.proofs.Words.{word_of_bytes}
use Rattle.archive_forms_values.proofs.text.repr.out_of_line_len.Goals as goal

pub returns-clause-length : goal.returns-clause-length
unfolding text_length
returns-clause-length c =
    let word : c.from_le_bytes-word.result ≡ word_at c.args.own.now 0 = c.from_le_bytes-word.ensures ∙ sym (word_of_bytes c.args.own.now 0) in
    ap text_length word
