use Rattle.std.proofs.Common.{ℕ, true, false, Ok, Err, refl, sym, ap, ◌∙◌}
use Rattle.std.specs.Prelude.{Vec, vec_len}
use Rattle.std.specs.Global.{Global}
use Rattle.archive_shape_layout.specs.Writing.{WriterMembers}
use Rattle.archive_shape_layout.specs.declared.error.Error.TheVariants.{OutOfMemory}
use Rattle.archive_core_serializing.specs.declared.serializer.Serializer.{Serializer}
use Rattle.archive_forms_laws.specs.State.{initial}
use Rattle.cabinet_documents.proofs.Imaged.{written_is_image_law}
use Rattle.cabinet_archived.specs.declared.node_in.NodeIn.{NodeIn}
use Rattle.cabinet_archived.specs.declared.sharing.node_share.NodeShare.{NodeShare}
use Rattle.cabinet_archived.proofs.Registries.{known_by}
use Rattle.cabinet_archives.proofs.Saves.{as_document, root_in_table, archive_made, archive_fits, archive_past, past_of, none_past}
use Rattle.cabinet_archives.proofs.saving.saving.to_bytes.Goals as goal

pub serialize_root-requires-clause-state : goal.serialize_root-requires-clause-state
serialize_root-requires-clause-state c =
    record { state = initial; is_at = record { stands = ap (λ v. vec_len v) c.new-serializer.ensures.writer ∙ c.new.ensures.len; knows = λ key. ap (λ (x : NodeShare). known_by x key) c.new-serializer.ensures.sharing ∙ c.new-2.ensures key } }

pub serialize_root-requires-clause-table : goal.serialize_root-requires-clause-table
serialize_root-requires-clause-table c =
    (root_in_table (record { wholes = c.wholes.result; node = c.root.result }) c.args.document.now c.wholes.ensures c.root.ensures.tree c.root.ensures.document).0

pub serialize_root-requires-clause-numbered : goal.serialize_root-requires-clause-numbered
serialize_root-requires-clause-numbered c =
    (root_in_table (record { wholes = c.wholes.result; node = c.root.result }) c.args.document.now c.wholes.ensures c.root.ensures.tree c.root.ensures.document).1

pub returns-in-Ok-clause-image : goal.returns-in-Ok-clause-image
returns-in-Ok-clause-image c =
    let m : WriterMembers (Serializer (Vec ℕ Global) Global NodeShare) = record { known = λ s. known_by s.sharing; pos = λ s. vec_len s.writer; OBSERVABLE = true; COUNTS = false; contents = λ s. s.writer.items; failures = λ s. 0; last_error = λ s. OutOfMemory } in
    let t = c.args.document.now in
    let root : NodeIn = record { wholes = c.wholes.result; node = c.root.result } in
    let new = c.serialize_root.new.serializer in
    let made = archive_made m t c.new-serializer.result new (record { stands = ap (λ v. vec_len v) c.new-serializer.ensures.writer ∙ c.new.ensures.len; knows = λ key. ap (λ (x : NodeShare). known_by x key) c.new-serializer.ensures.sharing ∙ c.new-2.ensures key })
    c.in-Ok.field-0 c.into_writer.result.items refl (ap (λ v. v.items) c.new-serializer.ensures.writer ∙ c.new.ensures.items) (ap (λ v. v.items) (sym c.into_writer.ensures))
    (as_document m root t c.new-serializer.result new (Ok c.in-Ok.field-0) c.wholes.ensures c.root.ensures.tree c.in-Ok.ensures) in
    written_is_image_law t c.into_writer.result.items c.root.ensures.document made.0 made.1

pub returns-in-Ok-clause-within : goal.returns-in-Ok-clause-within
returns-in-Ok-clause-within c =
    let m : WriterMembers (Serializer (Vec ℕ Global) Global NodeShare) = record { known = λ s. known_by s.sharing; pos = λ s. vec_len s.writer; OBSERVABLE = true; COUNTS = false; contents = λ s. s.writer.items; failures = λ s. 0; last_error = λ s. OutOfMemory } in
    let t = c.args.document.now in
    let root : NodeIn = record { wholes = c.wholes.result; node = c.root.result } in
    let new = c.serialize_root.new.serializer in
    none_past t c.root.ensures.document
    (archive_fits m t c.new-serializer.result new (record { stands = ap (λ v. vec_len v) c.new-serializer.ensures.writer ∙ c.new.ensures.len; knows = λ key. ap (λ (x : NodeShare). known_by x key) c.new-serializer.ensures.sharing ∙ c.new-2.ensures key }) c.in-Ok.field-0
    (as_document m root t c.new-serializer.result new (Ok c.in-Ok.field-0) c.wholes.ensures c.root.ensures.tree c.in-Ok.ensures))

pub returns-clause-refused : goal.returns-clause-refused
returns-clause-refused c =
    let m : WriterMembers (Serializer (Vec ℕ Global) Global NodeShare) = record { known = λ s. known_by s.sharing; pos = λ s. vec_len s.writer; OBSERVABLE = true; COUNTS = false; contents = λ s. s.writer.items; failures = λ s. 0; last_error = λ s. OutOfMemory } in
    let t = c.args.document.now in
    let root : NodeIn = record { wholes = c.wholes.result; node = c.root.result } in
    let new = c.serialize_root.new.serializer in
    past_of t c.in-Err.e c.root.ensures.document
    (archive_past m t c.new-serializer.result new (record { stands = ap (λ v. vec_len v) c.new-serializer.ensures.writer ∙ c.new.ensures.len; knows = λ key. ap (λ (x : NodeShare). known_by x key) c.new-serializer.ensures.sharing ∙ c.new-2.ensures key }) c.in-Err.e refl c.in_default.not-OutOfMemory
    (as_document m root t c.new-serializer.result new (Err c.in-Err.e) c.wholes.ensures c.root.ensures.tree c.in-Err.ensures))
