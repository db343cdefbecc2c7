use Rattle.std.proofs.Common.{refl}
use Rattle.archive_forms_laws.specs.State.{initial}
use Rattle.archive_forms_tests.proofs.writing.collections.written_with_claim.Goals as goal

pub serialize_from_iter-answer-requires-clause-state : goal.serialize_from_iter-answer-requires-clause-state
serialize_from_iter-answer-requires-clause-state c = record { state = initial; is_at = record { stands = c.new-serializer.ensures; knows = λ key. refl } }
