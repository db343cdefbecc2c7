use Rattle.std.proofs.Common.{◌+◌, ◌∙◌}
use Rattle.archive_forms_laws.proofs.Sizes.{filled_cut}
use Rattle.archive_forms_values.proofs.reading.option.option_size.Goals as goal

pub returns : goal.returns
returns c =
    c.next_multiple.ensures
    ∙ filled_cut (c.args.align + c.args.size) c.saturating_add.result c.args.align c.saturating_add.ensures
