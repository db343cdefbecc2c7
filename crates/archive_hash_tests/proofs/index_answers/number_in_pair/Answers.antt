use Rattle.std.proofs.Common.{[], refl}
use Rattle.archive_shape_canonical.specs.Canonical.{AreBytes}
use Rattle.archive_shape_canonical.specs.Settled.{free}
use Rattle.archive_hash_tests.proofs.Suits.{no_keys}
use Rattle.archive_hash_tests.proofs.index_answers.number_in_pair.Goals as goal

pub first-map-requires : goal.first-map-requires
first-map-requires c = rw (c.in_ok-root.ensures.bytes, c.in_ok-root.ensures.position) (c.in_ok-root.ensures.value [] ((tt, tt), tt))

pub number_of-requires : goal.number_of-requires
number_of-requires c =
    let there = c.in_ok-root.ensures.value [] ((tt, tt), tt) in
    let fields = c.first-map.ensures.value there.value (rw (c.in_ok-root.ensures.bytes, c.in_ok-root.ensures.position) there.held) in
    record { value = fields.each.first; held = rw (c.first-map.ensures.bytes, c.first-map.ensures.pos) fields.each.held }

pub returns : goal.returns
returns c =
    let pair = c.args.pair.now in
    let bytes = c.in_ok-bytes.bytes.items in
    let made = c.in_ok-bytes.ensures.bytes in
    let small : AreBytes bytes = rw (← c.deref.ensures.value) c.each_is_a_byte.ensures in
    let suits = c.unshared_suits.ensures refl pair no_keys in
    let root = c.root_is_written.ensures.readable pair bytes [] no_keys made.0 made.1 in
    let map = (c.fields_are_readable.ensures.of_two pair bytes _ free [] no_keys ((tt, tt), tt) suits root).0 in
    let answers = c.map_written_at_answers.ensures.maps [] no_keys free bytes _ pair.0 (tt, tt) small suits.0 map in
    c.number_of.ensures pair.0.pairs.items (rw (c.first-map.ensures.bytes, c.first-map.ensures.pos, c.in_ok-root.ensures.bytes, c.in_ok-root.ensures.position, c.as_slice-archive.ensures.value) answers)
