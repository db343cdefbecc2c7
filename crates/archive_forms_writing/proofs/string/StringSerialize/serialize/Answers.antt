use Rattle.std.proofs.Common.{ℕ, List, subst}
use Rattle.archive_shape_layout.specs.Writing.{WriterMembers}
use Rattle.archive_forms_laws.specs.Serializing.{Serializes}
use Rattle.archive_forms_writing.specs.Owned.{str_spelling}
use Rattle.archive_forms_writing.proofs.string.StringSerialize.serialize.Goals as goal

pub returns : goal.returns
returns g c =
    let s : WriterMembers g.row.S.Denot = record { known = g.S.Registry.known; pos = g.S.Positional.pos; OBSERVABLE = g.S.Writer.OBSERVABLE; COUNTS = g.S.Writer.COUNTS; contents = g.S.Writer.contents; failures = g.S.Writer.failures; last_error = g.S.Writer.last_error } in
    let P : List ℕ → Type 0 = λ t. Serializes str_spelling s t c.args.serializer.now c.serialize_from_str.new.serializer c.serialize_from_str.result in
    subst P c.as_str.ensures.value c.serialize_from_str.ensures
