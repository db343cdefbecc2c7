use Rattle.std.proofs.Common.{[]}
use Rattle.archive_forms_laws.specs.Fields.{tuple2_spelling}
use Rattle.archive_forms_laws.specs.Sample.{number_shape, number_spelling}
use Rattle.archive_btree_tests.proofs.Suits.{any_fit, no_keys, suit}
use Rattle.archive_btree_tests.proofs.read_back.archived_and_read.Goals as goal

pub one_is_equal-requires : goal.one_is_equal-requires
one_is_equal-requires c = c.alike_leaves_are_one.ensures.unsigned_32

pub maps_are_read_back-requires : goal.maps_are_read_back-requires
maps_are_read_back-requires c = record { keys = c.leaves_are_faithful.ensures.numbers; values = c.leaves_are_faithful.ensures.numbers; alike = c.one_is_equal.ensures }

pub from_bytes-requires : goal.from_bytes-requires
from_bytes-requires c = record { named = ([], (tt, tt)) }

pub returns : goal.returns
returns c =
    let map = c.args.numbers.now in
    let read = c.in_ok-read.read in
    let slice = c.as_slice-archive.ensures in
    let suits = suit (tuple2_spelling number_shape number_spelling number_shape number_spelling) any_fit no_keys (λ e. (tt, (tt, tt))) map.map.entries in
    let reads = c.read_back_is_written.ensures map read c.as_slice-archive.result.now any_fit [] no_keys (tt, tt) suits (rw slice.value c.in_ok-bytes.ensures.archive) c.in_ok-read.ensures.value in
    let one = c.alike_leaves_are_one.ensures.unsigned_32 in
    (c.maps_are_read_back.ensures.maps map read c.len-entries.ensures.ordered reads).1 one one
