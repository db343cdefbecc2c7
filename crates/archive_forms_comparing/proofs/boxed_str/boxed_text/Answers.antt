use Rattle.std.proofs.Common.{◌∙◌, sym, ap}
use Rattle.archive_forms_laws.specs.Views.{text_of}
use Rattle.archive_forms_comparing.proofs.boxed_str.boxed_text.Goals as goal

pub returns : goal.returns
returns c = λ v h.
    let there = c.get.ensures in
    there.3 ∙ sym (ap text_of (there.2.value v h))
