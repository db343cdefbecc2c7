use Rattle.std.proofs.Common.{[], arith}
use Rattle.archive_shape_canonical.specs.Settled.{free}
use Rattle.archive_example_stock.proofs.in_archive.shelf_in_archive.Goals as goal

pub shelves-requires : goal.shelves-requires
shelves-requires c = rw (c.in_ok-root.ensures.bytes, c.in_ok-root.ensures.position) (c.in_ok-root.ensures.value [] ((tt, tt), (tt, tt), (tt, tt), tt))

pub returns-in-Some : goal.returns-in-Some
returns-in-Some c =
    let stock = c.args.stock.now in
    let shelves = (c.maps_are_written.ensures stock _ _ c.in_ok-bytes.ensures).2 in
    let answers = c.map_written_at_answers.ensures.shared _ _ [] shelves.keys free (omega arith) shelves.are_bytes (tt, tt) shelves.suits shelves.readable.written shelves.readable.stand in
    let name = c.in-Some.ensures stock.shelves.map.entries (rw (c.shelves.ensures.bytes, c.shelves.ensures.pos, c.in_ok-root.ensures.bytes, c.in_ok-root.ensures.position, c.as_slice-archive.ensures.value) answers) in
    rw c.in_ok-from_str-in-Some.ensures.ok name

pub returns : goal.returns
returns c =
    let stock = c.args.stock.now in
    let shelves = (c.maps_are_written.ensures stock _ _ c.in_ok-bytes.ensures).2 in
    let answers = c.map_written_at_answers.ensures.shared _ _ [] shelves.keys free (omega arith) shelves.are_bytes (tt, tt) shelves.suits shelves.readable.written shelves.readable.stand in
    c.in-None.ensures stock.shelves.map.entries (rw (c.shelves.ensures.bytes, c.shelves.ensures.pos, c.in_ok-root.ensures.bytes, c.in_ok-root.ensures.position, c.as_slice-archive.ensures.value) answers)
