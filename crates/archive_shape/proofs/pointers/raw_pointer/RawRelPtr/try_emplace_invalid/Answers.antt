use Rattle.std.proofs.Common.{rules}
use Rattle.archive_shape.proofs.pointers.raw_pointer.RawRelPtr.try_emplace_invalid.Goals as goal

pub returns-in_err-native-clause-ok : goal.returns-in_err-native-clause-ok
returns-in_err-native-clause-ok g c = search rules

pub returns-in_err-native-clause-contents : goal.returns-in_err-native-clause-contents
returns-in_err-native-clause-contents g c = search rules

pub returns-in_err-native-clause-invalid : goal.returns-in_err-native-clause-invalid
returns-in_err-native-clause-invalid g c = search rules

pub returns-clause-contents : goal.returns-clause-contents
returns-clause-contents g c = search rules

pub returns-clause-invalid : goal.returns-clause-invalid
returns-clause-invalid g c = search rules
