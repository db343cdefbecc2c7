use Rattle.std.proofs.Common.{rules, arith, ◌≡◌, SFits, to_z, of_z, ap, ◌∙◌, sym}
use Rattle.std.proofs.lemmas.Int.{ints}
use Rattle.std.specs.Int.{w32, w64, cast_signed}
use Rattle.archive_shape.proofs.Words.{word_of_bytes}
use Rattle.archive_forms_values.proofs.text.repr.ArchivedStringRepr.out_of_line_offset.Goals as goal

pub returns : goal.returns
returns c =
    let fits : SFits w32 c.from_le_bytes.result = search rules in
    let widened : to_z w64 (of_z w64 (to_z w32 (of_z w32 c.from_le_bytes.result))) ≡ c.from_le_bytes.result = omega (arith, ints) in
    widened ∙ c.from_le_bytes.ensures ∙ ap (cast_signed w32) (sym (word_of_bytes c.args.own.now 4))
