use Rattle.std.proofs.Common.{ap}
use Rattle.archive_forms_values.proofs.Inside.{some_says}
use Rattle.archive_forms_comparing.proofs.Elements.{element_at}
use Rattle.archive_forms_comparing.proofs.vector.element.Goals as goal

pub returns : goal.returns
returns g c =
    let at = some_says _ _ c.get.result c.unwrap.result c.get.ensures c.unwrap.ensures in
    element_at (ap (λ b. b.now) at.1) at.2 c.requires.within c.requires.there
