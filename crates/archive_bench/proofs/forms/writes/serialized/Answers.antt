use Rattle.std.proofs.Common.{refl}
use Rattle.archive_forms_laws.specs.State.{initial}
use Rattle.archive_bench.proofs.forms.writes.serialized.Goals as goal

pub serialize_using-requires-clause-state : goal.serialize_using-requires-clause-state
serialize_using-requires-clause-state g c = record { state = initial; is_at = record { stands = c.new-serializer.ensures.pos; knows = λ key. refl } }
