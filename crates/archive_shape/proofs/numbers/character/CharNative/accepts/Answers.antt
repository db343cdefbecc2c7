use Rattle.std.proofs.Common.{sym, ◌∙◌}
use Rattle.archive_shape_layout.proofs.NumberReading.{char_illegal, char_is_legal}
use Rattle.archive_shape.proofs.numbers.character.CharNative.accepts.Goals as goal

pub returns-clause-legal : goal.returns-clause-legal
returns-clause-legal c = λ e. char_is_legal _ c.read.result c.from_u32.result c.read.ensures.value c.from_u32.ensures.value (sym c.is_some.ensures ∙ e)

pub returns-clause-illegal : goal.returns-clause-illegal
returns-clause-illegal c = λ e. char_illegal _ c.read.result c.from_u32.result c.read.ensures.value c.from_u32.ensures.value (sym c.is_some.ensures ∙ e)
