use Rattle.std.proofs.Common.{[], refl}
use Rattle.archive_hash_tests.proofs.index_reading.pairs_read.Goals as goal

pub index_maps_are_read_back-requires : goal.index_maps_are_read_back-requires
index_maps_are_read_back-requires c = record { keys = c.texts_are_faithful.ensures.texts; values = c.leaves_are_faithful.ensures.numbers }

pub from_bytes-requires : goal.from_bytes-requires
from_bytes-requires c = record { named = ([], (tt, tt)) }

pub returns : goal.returns
returns c =
    let slice = c.as_slice-archive.ensures in
    c.index_maps_are_read_back.ensures.owned_maps c.args.map.now c.in_ok-read.read (c.in_ok-read.ensures.written refl c.args.map.now (rw slice.value c.in_ok-bytes.ensures.archive))
