use Rattle.std.proofs.Common.{rules, ◌≡◌, ℕ, Option, inl, Ok, Err}
use Rattle.archive_shape_layout.specs.Shape.Shape.{tuple}
use Rattle.archive_shape_layout.specs.Shape.Shapes.{no_shapes}
use Rattle.archive_shape_layout.specs.Writing.{WriterMembers}
use Rattle.archive_forms_laws.specs.Fields.{unit_spelling}
use Rattle.archive_btree_spelling.specs.Maps.{btree_spelling}
use Rattle.archive_forms_laws.specs.Taking.{GivesAs}
use Rattle.archive_btree.specs.Owned.{key_entry}
use Rattle.archive_btree.proofs.Listed.{none_begun}
use Rattle.archive_btree.proofs.Seen.{claimed_seen, key_given}
use Rattle.archive_btree.proofs.ordered_keys.serialize_set_from_ordered_iter.Goals as goal

pub returns-then-this-gt-MAX_ENTRIES : goal.returns-then-this-gt-MAX_ENTRIES
returns-then-this-gt-MAX_ENTRIES g c =
    let s : WriterMembers g.row.S.Denot = record { known = g.S.Registry.known; pos = g.S.Positional.pos; OBSERVABLE = g.S.Writer.OBSERVABLE; COUNTS = g.S.Writer.COUNTS; contents = g.S.Writer.contents; failures = g.S.Writer.failures; last_error = g.S.Writer.last_error } in
    inl
    (none_begun (btree_spelling g.row.E g.K.Archived.Portable.shape (tuple no_shapes) g.K.Archive.spelling unit_spelling) s (GivesAs key_entry g.I.Iterator.next_gives) c.args.claimed c.args.keys c.args.serializer.now)

pub returns : goal.returns
returns g c =
    let s : WriterMembers g.row.S.Denot = record { known = g.S.Registry.known; pos = g.S.Positional.pos; OBSERVABLE = g.S.Writer.OBSERVABLE; COUNTS = g.S.Writer.COUNTS; contents = g.S.Writer.contents; failures = g.S.Writer.failures; last_error = g.S.Writer.last_error } in
    claimed_seen g.row.E g.K.Archived.Portable.shape (tuple no_shapes) g.K.Archive.spelling unit_spelling s _ (GivesAs key_entry g.I.Iterator.next_gives) (λ it. it.keys) (key_given g.I.Iterator.next_gives (λ it. it.keys)) (λ (r : Option ℕ). r)
    c.args.claimed _ c.args.serializer.now c.build_tree_each.new.serializer (Ok c.in_ok-pos.pos) c.in_ok-pos.ensures

pub returns-in_err-pos : goal.returns-in_err-pos
returns-in_err-pos g c =
    let failed : c.from_residual.result ≡ Err c.in_err-pos.field-0.0 = search rules in
    rw failed
    (let s : WriterMembers g.row.S.Denot = record { known = g.S.Registry.known; pos = g.S.Positional.pos; OBSERVABLE = g.S.Writer.OBSERVABLE; COUNTS = g.S.Writer.COUNTS; contents = g.S.Writer.contents; failures = g.S.Writer.failures; last_error = g.S.Writer.last_error } in
    claimed_seen g.row.E g.K.Archived.Portable.shape (tuple no_shapes) g.K.Archive.spelling unit_spelling s _ (GivesAs key_entry g.I.Iterator.next_gives) (λ it. it.keys) (key_given g.I.Iterator.next_gives (λ it. it.keys)) (λ (r : Option ℕ). r)
    c.args.claimed _ c.args.serializer.now c.build_tree_each.new.serializer (Err c.in_err-pos.field-0.0) c.in_err-pos.ensures)
