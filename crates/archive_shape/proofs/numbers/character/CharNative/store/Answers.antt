use Rattle.archive_shape_layout.proofs.NumberReading.{char_reads}
use Rattle.archive_shape.proofs.numbers.character.CharNative.store.Goals as goal

pub returns-clause-value : goal.returns-clause-value
returns-clause-value c = char_reads _ _ _ c.store.ensures.value c.from.ensures c.ranges.self.0
