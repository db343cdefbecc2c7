use Rattle.std.proofs.Common.{rules}
use Rattle.archive_shape.proofs.pointers.raw_pointer.RawRelPtr.try_emplace.Goals as goal

pub returns-in_err-native-clause-contents : goal.returns-in_err-native-clause-contents
returns-in_err-native-clause-contents g c = search rules

pub returns-clause-contents : goal.returns-clause-contents
returns-clause-contents g c = search rules

pub returns-clause-leads : goal.returns-clause-leads
returns-clause-leads g c = search rules
