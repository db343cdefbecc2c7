use Rattle.std.proofs.Common.{rules}
use Rattle.archive_forms.proofs.deserializing.once.read_value_once.Goals as goal

pub returns-in-Some-clause-value : goal.returns-in-Some-clause-value
returns-in-Some-clause-value g c = search rules

pub returns-in-Some-clause-pooled : goal.returns-in-Some-clause-pooled
returns-in-Some-clause-pooled g c = search rules

pub returns-clause-unread : goal.returns-clause-unread
returns-clause-unread g c = search rules

pub returns-in_err-read-clause-unread : goal.returns-in_err-read-clause-unread
returns-in_err-read-clause-unread g c = search rules

pub returns-in-Err-clause-unread : goal.returns-in-Err-clause-unread
returns-in-Err-clause-unread g c = search rules
