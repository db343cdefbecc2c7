use Rattle.std.proofs.Common.{[], length, refl, arith}
use Rattle.archive_shape_layout.specs.Holds.{root_position}
use Rattle.archive_shape_layout.specs.Shape.Shape.{tree}
use Rattle.archive_shape_canonical.specs.Canonical.{AreBytes}
use Rattle.archive_forms_laws.specs.Sample.{number_shape}
use Rattle.archive_btree.specs.Owned.{key_entries}
use Rattle.archive_btree_maps.specs.Sets.{unit_shape}
use Rattle.archive_btree_tests.proofs.Suits.{no_keys}
use Rattle.archive_btree_tests.proofs.answers.is_in_archive.Goals as goal

pub has_number-requires : goal.has_number-requires
has_number-requires c = rw (c.in_ok-root.ensures.bytes, c.in_ok-root.ensures.position) (c.in_ok-root.ensures.value [] (tt, tt))

pub returns : goal.returns
returns c =
    let set = c.args.set.now in
    let bytes = c.in_ok-bytes.bytes.items in
    let pos = root_position (length bytes) (tree 5 number_shape unit_shape) in
    let made = c.in_ok-bytes.ensures.bytes in
    let small : AreBytes bytes = rw (← c.deref.ensures.value) c.each_is_a_byte.ensures in
    let readable = c.root_is_written.ensures.readable set bytes [] no_keys made.0 made.1 in
    let answers = c.set_written_at_answers.ensures.unshared bytes pos [] no_keys (omega arith) small (tt, tt) refl readable.written in
    c.has_number.ensures (key_entries set.set.keys) (rw (c.in_ok-root.ensures.bytes, c.in_ok-root.ensures.position, c.as_slice-archive.ensures.value) answers)
