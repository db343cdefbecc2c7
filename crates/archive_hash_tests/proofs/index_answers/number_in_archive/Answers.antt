use Rattle.std.proofs.Common.{[]}
use Rattle.archive_hash_tests.proofs.index_answers.number_in_archive.Goals as goal

pub number_of-requires : goal.number_of-requires
number_of-requires c = rw (c.in_ok-root.ensures.bytes, c.in_ok-root.ensures.position) (c.in_ok-root.ensures.value [] (tt, tt))

pub returns : goal.returns
returns c =
    let map = c.args.map.now in
    let answers = c.written_map_answers.ensures c.in_ok-bytes.bytes.items map.pairs.items c.in_ok-bytes.ensures in
    c.number_of.ensures map.pairs.items (rw (c.in_ok-root.ensures.bytes, c.in_ok-root.ensures.position, c.as_slice-archive.ensures.value) answers)
