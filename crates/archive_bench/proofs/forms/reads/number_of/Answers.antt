use Rattle.std.proofs.Common.{ap, ◌∙◌}
use Rattle.archive_forms_laws.specs.Views.{natural_of}
use Rattle.archive_bench.proofs.forms.reads.number_of.Goals as goal

pub returns : goal.returns
returns c = λ v h. c.from.ensures ∙ ap natural_of (c.native_of.ensures v h)
