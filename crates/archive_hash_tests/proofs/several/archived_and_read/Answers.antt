use Rattle.std.proofs.Common.{[], refl}
use Rattle.archive_hash_tests.proofs.several.archived_and_read.Goals as goal

pub from_bytes-requires : goal.from_bytes-requires
from_bytes-requires c = record { named = ([], (tt, tt)) }

pub returns : goal.returns
returns c = record { read = c.from_bytes.ensures.written refl c.args.maps.now (rw c.as_slice-archive.ensures.value c.in_ok-bytes.ensures.archive) }
