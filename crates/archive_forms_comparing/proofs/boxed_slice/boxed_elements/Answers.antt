use Rattle.std.proofs.Common.{sym, ap, subst}
use Rattle.archive_forms_values.specs.Parts.{HasElements, AreElements}
use Rattle.archive_forms_comparing.proofs.boxed_slice.boxed_elements.Goals as goal

pub returns-clause-there : goal.returns-clause-there
returns-clause-there g c =
    let slice = c.get.result in
    subst (λ bs. HasElements g.T.Portable.shape g.T.Portable.knows bs slice.pos slice.len) (sym (ap (λ b. b.now) c.get.ensures.bytes))
    (record { value = c.requires.value; stand = c.get.ensures.elements.value c.requires.value c.requires.held })

pub returns-clause-elements : goal.returns-clause-elements
returns-clause-elements g c = λ v h.
    let slice = c.get.result in
    subst (λ bs. AreElements g.T.Portable.shape g.T.Portable.knows bs slice.pos slice.len v) (sym (ap (λ b. b.now) c.get.ensures.bytes))
    (c.get.ensures.elements.value v h)
