use Rattle.std.proofs.Common.{ℕ, subst}
use Rattle.std.specs.Map.Iter.{TakesFirst, deref_pair}
use Rattle.archive_shape_layout.specs.Writing.{WriterMembers}
use Rattle.archive_forms_laws.specs.Taking.{GivesAs}
use Rattle.archive_btree_writing.specs.Built.{BuildsClaimedBy}
use Rattle.archive_btree.proofs.Listed.{map_written}
use Rattle.archive_btree.proofs.serialize.serialize_rest_each.Goals as goal

pub returns : goal.returns
returns g c =
    let s : WriterMembers g.row.S.Denot = record { known = g.S.Registry.known; pos = g.S.Positional.pos; OBSERVABLE = g.S.Writer.OBSERVABLE; COUNTS = g.S.Writer.COUNTS; contents = g.S.Writer.contents; failures = g.S.Writer.failures; last_error = g.S.Writer.last_error } in
    let k = g.K.Archived.Portable.shape in
    let v = g.A.Archived.Portable.shape in
    let es = c.args.entries in
    let old = c.args.serializer.now in
    let new = c.serialize_from_ordered_iter_with_each.new.serializer in
    let result = c.serialize_from_ordered_iter_with_each.result in
    let Counted : ℕ → Type 0 = λ n. BuildsClaimedBy g.row.E k v g.K.Archive.spelling (g.A.ArchiveWith.spelling c.args.with.now) s (GivesAs deref_pair (TakesFirst deref_pair)) (λ r. r.pos) n es old new result in
    map_written g.row.E k v g.K.Archive.spelling (g.A.ArchiveWith.spelling c.args.with.now) s deref_pair es old new result
    (subst Counted c.requires.counted c.serialize_from_ordered_iter_with_each.ensures)
