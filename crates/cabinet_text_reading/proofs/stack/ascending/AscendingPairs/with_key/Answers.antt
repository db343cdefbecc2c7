use Rattle.std.proofs.Common.{[], string_bytes}
use Rattle.cabinet_text_reading.specs.Ascending.{stored_pairs}
use Rattle.cabinet_text_reading.proofs.Ascending.{ascends_to}
use Rattle.cabinet_text_reading.proofs.stack.ascending.AscendingPairs.with_key.Goals as goal

pub invariant_of-result : goal.invariant_of-result
invariant_of-result c =
    let key = c.in-Ok.key in
    ascends_to [] (stored_pairs c.self.inside.pairs) key c.self.invariant (c.in-Ok.ensures.after (string_bytes key) c.in-Ok.ensures.key)
