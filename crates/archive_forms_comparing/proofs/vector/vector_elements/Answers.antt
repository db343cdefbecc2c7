use Rattle.std.proofs.Common.{sym, ap, subst}
use Rattle.archive_forms_values.specs.Parts.{HasElements, AreElements}
use Rattle.archive_forms_comparing.proofs.vector.vector_elements.Goals as goal

pub returns-clause-there : goal.returns-clause-there
returns-clause-there g c =
    let slice = c.as_slice.result in
    subst (λ bs. HasElements g.T.Portable.shape g.T.Portable.knows bs slice.pos slice.len) (sym (ap (λ b. b.now) c.as_slice.ensures.bytes))
    (record { value = c.requires.value; stand = c.as_slice.ensures.elements.value c.requires.value c.requires.held })

pub returns-clause-elements : goal.returns-clause-elements
returns-clause-elements g c = λ v h.
    let slice = c.as_slice.result in
    subst (λ bs. AreElements g.T.Portable.shape g.T.Portable.knows bs slice.pos slice.len v) (sym (ap (λ b. b.now) c.as_slice.ensures.bytes))
    (c.as_slice.ensures.elements.value v h)
