use Rattle.std.proofs.Common.{rules}
use Rattle.archive_index.proofs.writing.from_iter.fn.serialize_given_pairs.serialize_from_iter_scan_each+arg4.Goals as goal

pub returns : goal.returns
returns g c = search rules
