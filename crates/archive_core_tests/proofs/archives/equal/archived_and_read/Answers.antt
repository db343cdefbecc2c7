use Rattle.std.proofs.Common.{[], None, refl}
use Rattle.archive_shape_canonical.specs.Settled.{free}
use Rattle.archive_forms_laws.specs.State.{Keys}
use Rattle.archive_core_tests.proofs.archives.equal.archived_and_read.Goals as goal

pub read_back_is_equal-requires : goal.read_back_is_equal-requires
read_back_is_equal-requires c = record { faithful = c.listed_are_faithful.ensures; alike = c.alike_listed_are_equal.ensures }

pub from_bytes-requires : goal.from_bytes-requires
from_bytes-requires c = record { named = ([], (tt, tt)) }

pub returns : goal.returns
returns c =
    let listed = c.args.listed.now in
    let keys : Keys = λ _. None in
    c.read_back_is_equal.ensures listed c.in_ok-read.read c.as_slice-archive.result.now free [] keys (tt, tt) (c.unshared_suits.ensures refl listed keys) (rw c.as_slice-archive.ensures.value c.in_ok-bytes.ensures.archive) c.in_ok-read.ensures.value
