use Rattle.std.proofs.Common.{rules, ◌≡◌, ℕ, List, Ok, Err, ap, subst}
use Rattle.archive_shape_layout.specs.Writing.{WriterMembers}
use Rattle.archive_forms_laws.specs.Serializing.{Serializes}
use Rattle.archive_forms_laws.specs.Texts.{boxed_text_spelling}
use Rattle.archive_forms_values.specs.declared.reading.resolving.BoxResolver.{BoxResolver}
use Rattle.archive_forms_writing.proofs.boxed_slices.BoxedStrSerialize.serialize.Goals as goal

pub returns-in_err-pos : goal.returns-in_err-pos
returns-in_err-pos g c = λ st at.
    let s : WriterMembers g.row.S.Denot = record { known = g.S.Registry.known; pos = g.S.Positional.pos; OBSERVABLE = g.S.Writer.OBSERVABLE; COUNTS = g.S.Writer.COUNTS; contents = g.S.Writer.contents; failures = g.S.Writer.failures; last_error = g.S.Writer.last_error } in
    let P : List ℕ → Type 0 = λ t. Serializes boxed_text_spelling s t c.args.serializer.now c.serialize_str.new.serializer (Err c.in_err-pos.field-0.0) in
    let passed : c.from_residual.result ≡ Err c.in_err-pos.field-0.0 = search rules in
    rw passed (subst P c.as_str.ensures.value c.in_err-pos.ensures st at)

pub returns : goal.returns
returns g c = λ st at.
    let s : WriterMembers g.row.S.Denot = record { known = g.S.Registry.known; pos = g.S.Positional.pos; OBSERVABLE = g.S.Writer.OBSERVABLE; COUNTS = g.S.Writer.COUNTS; contents = g.S.Writer.contents; failures = g.S.Writer.failures; last_error = g.S.Writer.last_error } in
    let P : List ℕ → Type 0 = λ t. Serializes boxed_text_spelling s t c.args.serializer.now c.serialize_str.new.serializer (Ok c.in_ok-pos.pos) in
    let done = subst P c.as_str.ensures.value c.in_ok-pos.ensures st at in
    let kept : ℕ → BoxResolver = λ n. record { pos = n } in
    (done.0, (ap kept done.1.0, done.1.1, done.1.2))
