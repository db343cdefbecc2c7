use Rattle.std.proofs.Common.{ap}
use Rattle.archive_forms_writing.proofs.boxing.unsized_values.serialize_from_ref.Goals as goal

pub returns : goal.returns
returns g c = λ st at. let h = c.in_ok-pos.ensures st at in (h.0, (ap (λ n. record { pos = n }) h.1.0, h.1.1, h.1.2))
