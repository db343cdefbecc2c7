use Rattle.std.proofs.Common.{refl}
use Rattle.archive_forms_laws.specs.State.{initial}
use Rattle.archive_core_tests.proofs.serializing.writers.own_bytes_are_aligned.Goals as goal

pub resolve_aligned-requires-clause-made : goal.resolve_aligned-requires-clause-made
resolve_aligned-requires-clause-made g c = (initial, refl)
