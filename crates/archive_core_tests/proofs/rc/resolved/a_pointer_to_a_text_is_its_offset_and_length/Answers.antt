use Rattle.std.proofs.Common.{rules}
use Rattle.archive_core_tests.proofs.rc.resolved.a_pointer_to_a_text_is_its_offset_and_length.Goals as goal

-- the resolver is that of the value in the state in which it was written
pub resolve_from_ref-requires : goal.resolve_from_ref-requires
resolve_from_ref-requires g c =
    let fresh = c.serializer-memory.ensures in
    record {
      room = search rules;
      stands = search rules;
      blank = search rules;
      made = (fresh.state, (c.in_ok-resolver.ensures fresh.state fresh.is_at).1.0);
    }
