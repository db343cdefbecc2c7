use Rattle.cabinet_text_reading.specs.Ascending.{stored_pairs}
use Rattle.cabinet_text_reading.proofs.Ascending.{none_ascend}
use Rattle.cabinet_text_reading.proofs.stack.ascending.AscendingPairs.new.Goals as goal

pub invariant_of-result : goal.invariant_of-result
invariant_of-result c = none_ascend (stored_pairs c.new.result) c.new.ensures
