use Rattle.std.proofs.Common.{[]}
use Rattle.archive_hash_tests.proofs.Suits.{no_keys}
use Rattle.archive_hash_tests.proofs.index_answers.value_in_nested.Goals as goal

pub value_in-requires : goal.value_in-requires
value_in-requires c = rw (c.in_ok-root.ensures.bytes, c.in_ok-root.ensures.position) (c.in_ok-root.ensures.value [] (tt, (tt, tt)))

pub returns : goal.returns
returns c =
    let maps = c.args.maps.now in
    let made = c.in_ok-bytes.ensures.bytes in
    let root = c.root_is_written.ensures.readable maps c.in_ok-bytes.bytes.items [] no_keys made.0 made.1 in
    c.value_in.ensures no_keys maps (rw (c.in_ok-root.ensures.bytes, c.in_ok-root.ensures.position, c.as_slice-archive.ensures.value) root)
