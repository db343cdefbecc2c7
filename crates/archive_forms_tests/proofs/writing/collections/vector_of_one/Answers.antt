use Rattle.std.proofs.Common.{rules, refl}
use Rattle.archive_forms_laws.specs.State.{initial}
use Rattle.archive_forms_tests.proofs.writing.collections.vector_of_one.Goals as goal

pub serialize_from_slice-requires-clause-state : goal.serialize_from_slice-requires-clause-state
serialize_from_slice-requires-clause-state c = record { state = initial; is_at = record { stands = c.new-serializer.ensures; knows = λ key. refl } }

pub resolve_from_slice-requires : goal.resolve_from_slice-requires
resolve_from_slice-requires c = record {
  room = search rules;
  stands = search rules;
  blank = search rules;
  made = (initial, (c.in-Ok.ensures initial (record { stands = c.new-serializer.ensures; knows = λ key. refl })).1.0);
}
