use Rattle.std.proofs.Common.{ap, refl}
use Rattle.archive_forms_comparing.proofs.Seen.{box_part}
use Rattle.archive_forms_comparing.proofs.parts.box_value.Goals as goal

pub returns : goal.returns
returns g c = box_part g.T.Portable.shape g.T.Portable.knows c.args.this.now.bytes.now c.args.this.now.pos (ap (λ b. b.now) c.get.ensures.bytes) refl c.requires c.get.ensures.value
