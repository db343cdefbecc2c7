use Rattle.std.proofs.Common.{rules}
use Rattle.archive_index.proofs.writing.keys_from_iter.fn.serialize_given_keys.serialize_from_iter_scan_each+arg4.Goals as goal

pub returns : goal.returns
returns g c = search rules
