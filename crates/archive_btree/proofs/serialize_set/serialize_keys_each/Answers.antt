use Rattle.std.proofs.Common.{ℕ, subst}
use Rattle.std.specs.Map.Iter.{TakesFirst, deref_pair}
use Rattle.archive_shape_layout.specs.Shape.Shape.{tuple}
use Rattle.archive_shape_layout.specs.Shape.Shapes.{no_shapes}
use Rattle.archive_shape_layout.specs.Writing.{WriterMembers}
use Rattle.archive_forms_laws.specs.Fields.{unit_spelling}
use Rattle.archive_forms_laws.specs.Taking.{GivesAs}
use Rattle.archive_btree_writing.specs.Built.{BuildsClaimedBy}
use Rattle.archive_btree.proofs.Listed.{map_written}
use Rattle.archive_btree.proofs.serialize_set.serialize_keys_each.Goals as goal

pub returns : goal.returns
returns g c =
    let s : WriterMembers g.row.S.Denot = record { known = g.S.Registry.known; pos = g.S.Positional.pos; OBSERVABLE = g.S.Writer.OBSERVABLE; COUNTS = g.S.Writer.COUNTS; contents = g.S.Writer.contents; failures = g.S.Writer.failures; last_error = g.S.Writer.last_error } in
    let k = g.K.Archived.Portable.shape in
    let v = tuple no_shapes in
    let es = c.args.entries in
    let old = c.args.serializer.now in
    let new = c.serialize_from_ordered_iter_each.new.serializer in
    let result = c.serialize_from_ordered_iter_each.result in
    let Counted : ℕ → Type 0 = λ n. BuildsClaimedBy g.row.E k v g.K.Archive.spelling unit_spelling s (GivesAs deref_pair (TakesFirst deref_pair)) (λ r. r.pos) n es old new result in
    map_written g.row.E k v g.K.Archive.spelling unit_spelling s deref_pair es old new result
    (subst Counted c.requires.counted c.serialize_from_ordered_iter_each.ensures)
