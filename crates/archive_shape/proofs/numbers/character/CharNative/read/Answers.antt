use Rattle.archive_shape_layout.proofs.NumberReading.{char_found, char_is_found}
use Rattle.archive_shape.proofs.numbers.character.CharNative.read.Goals as goal

pub unwrap-requires : goal.unwrap-requires
unwrap-requires c = char_is_found _ c.read.result c.from_u32.result c.read.ensures.value c.from_u32.ensures.value c.requires.legal

pub returns-clause-value : goal.returns-clause-value
returns-clause-value c = char_found _ _ _ _ c.read.ensures.value c.unwrap.ensures c.from_u32.ensures.value
