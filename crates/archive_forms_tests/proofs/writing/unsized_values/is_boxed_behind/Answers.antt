use Rattle.std.proofs.Common.{rules, refl}
use Rattle.archive_forms_laws.specs.State.{initial}
use Rattle.archive_forms_tests.proofs.writing.unsized_values.is_boxed_behind.Goals as goal

pub serialize_from_ref-requires-clause-state : goal.serialize_from_ref-requires-clause-state
serialize_from_ref-requires-clause-state g c = record { state = initial; is_at = record { stands = c.new-serializer.ensures; knows = λ key. refl } }

pub resolve_from_ref-requires : goal.resolve_from_ref-requires
resolve_from_ref-requires g c = record {
  room = search rules;
  stands = search rules;
  blank = search rules;
  made = (initial, (c.in-Ok.ensures initial (record { stands = c.new-serializer.ensures; knows = λ key. refl })).1.0);
}
