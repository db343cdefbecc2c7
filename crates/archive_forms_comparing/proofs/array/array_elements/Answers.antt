use Rattle.std.proofs.Common.{sym, ap, subst}
use Rattle.archive_forms_values.specs.Parts.{AreElements}
use Rattle.archive_forms_comparing.proofs.array.array_elements.Goals as goal

pub returns-clause-elements : goal.returns-clause-elements
returns-clause-elements g c = λ v h.
    let s = g.T.Portable.shape in
    let knows = g.T.Portable.knows in
    let there = c.args.this.now in
    let slice = c.array_slice.result in
    let is = c.array_slice.ensures in
    subst (λ bs. AreElements s knows bs slice.pos slice.len v) (sym (ap (λ b. b.now) is.bytes))
    (subst (λ p. AreElements s knows there.bytes.now p slice.len v) (sym is.stands.0) (subst (λ n. AreElements s knows there.bytes.now there.pos n v) (sym is.stands.1) (is.elements v h)))

pub returns-clause-there : goal.returns-clause-there
returns-clause-there g c = record { value = c.requires.value; stand = returns-clause-elements g c c.requires.value c.requires.held }
