use Rattle.std.proofs.Common.{inl}
use Rattle.std.specs.Map.Iter.{deref_pair}
use Rattle.archive_shape_layout.specs.Writing.{WriterMembers}
use Rattle.archive_btree_spelling.specs.Maps.{btree_spelling}
use Rattle.archive_forms_laws.specs.Taking.{GivesAs}
use Rattle.archive_btree.proofs.Listed.{none_begun}
use Rattle.archive_btree.proofs.ordered.serialize_from_ordered_iter_with_each.Goals as goal

pub returns-then-this-gt-MAX_ENTRIES : goal.returns-then-this-gt-MAX_ENTRIES
returns-then-this-gt-MAX_ENTRIES g c =
    let s : WriterMembers g.row.S.Denot = record { known = g.S.Registry.known; pos = g.S.Positional.pos; OBSERVABLE = g.S.Writer.OBSERVABLE; COUNTS = g.S.Writer.COUNTS; contents = g.S.Writer.contents; failures = g.S.Writer.failures; last_error = g.S.Writer.last_error } in
    inl
    (none_begun (btree_spelling g.row.E g.K.Archived.Portable.shape g.A.Archived.Portable.shape g.K.Archive.spelling (g.A.ArchiveWith.spelling c.args.with.now)) s (GivesAs deref_pair g.I.Iterator.next_gives) c.args.claimed c.args.entries c.args.serializer.now)

pub returns : goal.returns
returns g c = c.in_ok-pos.ensures
