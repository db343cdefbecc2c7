use Rattle.std.proofs.Common.{ap, refl}
use Rattle.archive_forms_comparing.proofs.Seen.{moved}
use Rattle.archive_forms_comparing.proofs.entry.tuple_of.Goals as goal

pub returns : goal.returns
returns g c = moved (ap (λ b. b.now) c.new.ensures.bytes) c.new.ensures.pos (record { there = c.requires; each = λ v h. (v, refl, h) })
