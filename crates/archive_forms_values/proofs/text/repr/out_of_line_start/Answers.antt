use Rattle.std.proofs.Common.{rules, SFits}
use Rattle.std.proofs.lemmas.Int.{to_z-of_z}
use Rattle.std.specs.Int.{w64}
use Rattle.archive_shape_layout.specs.Bytes.{word_at}
use Rattle.archive_shape.proofs.Words.{word_bound, offset_leads}
use Rattle.archive_forms_values.proofs.text.repr.out_of_line_start.Goals as goal

pub returns : goal.returns
returns c =
    let fits : SFits w64 c.out_of_line_offset.result = search rules in
    offset_leads c.args.pos (word_at c.args.own.now 4) c.out_of_line_offset.result
    c.requires.small (word_bound c.args.own.now 4 c.type_inv.own) c.out_of_line_offset.ensures c.checked_add_signed.result (simp to_z-of_z at c.checked_add_signed.ensures)
