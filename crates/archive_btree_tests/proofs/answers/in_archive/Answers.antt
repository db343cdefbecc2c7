use Rattle.std.proofs.Common.{[], length, arith}
use Rattle.archive_shape_layout.specs.Holds.{root_position}
use Rattle.archive_shape_layout.specs.Shape.Shape.{tree}
use Rattle.archive_shape_canonical.specs.Canonical.{AreBytes}
use Rattle.archive_core.specs.Written.{from_position}
use Rattle.archive_forms_laws.specs.Fields.{tuple2_spelling}
use Rattle.archive_forms_laws.specs.Sample.{number_shape, number_spelling}
use Rattle.archive_btree.specs.Answering.{IsWrittenMap}
use Rattle.archive_btree_tests.specs.Answers.{any, IsAnswered}
use Rattle.archive_btree_tests.proofs.Suits.{any_fit, no_keys, suit}
use Rattle.archive_btree_tests.proofs.answers.in_archive.Goals as goal

pub number_of-requires : goal.number_of-requires
number_of-requires c = rw (c.in_ok-root.ensures.bytes, c.in_ok-root.ensures.position) (c.in_ok-root.ensures.value [] (tt, tt))

pub first_from-requires : goal.first_from-requires
first_from-requires c = rw (c.in_ok-root.ensures.bytes, c.in_ok-root.ensures.position) (c.in_ok-root.ensures.value [] (tt, tt))

pub returns : goal.returns
returns c =
    let es = c.args.map.now.map.entries in
    let bytes = c.in_ok-bytes.bytes.items in
    let pos = root_position (length bytes) (tree 5 number_shape number_shape) in
    let suits = suit (tuple2_spelling number_shape number_spelling number_shape number_spelling) any_fit no_keys (λ e. (tt, (tt, tt))) es in
    let written = c.in_ok-bytes.ensures.archive any_fit [] no_keys (tt, tt) suits in
    let small : AreBytes bytes = rw (← c.deref.ensures.value) c.each_is_a_byte.ensures in
    let m : IsWrittenMap 5 number_shape number_shape any any number_spelling number_spelling bytes es =
    record { fit = any_fit; names = []; start = 0; state = from_position 0; regions = written.regions; visits = written.visits; known = (tt, tt); archive = written.canonical (λ k l a b none. absurd (cc)) }
    in
    let answers = c.written_map_answers.ensures bytes (omega arith) m in
    let there : IsAnswered number_shape number_spelling c.in_ok-root.root.bytes.now c.in_ok-root.root.pos es = rw (c.in_ok-root.ensures.bytes, c.in_ok-root.ensures.position, c.as_slice-archive.ensures.value) answers in
    let all : AreBytes c.in_ok-root.root.bytes.now = rw (c.in_ok-root.ensures.bytes, c.as_slice-archive.ensures.value) small in
    (c.number_of.ensures es there, c.first_from.ensures es all there)
