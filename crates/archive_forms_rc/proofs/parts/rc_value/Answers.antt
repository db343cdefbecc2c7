use Rattle.std.proofs.Common.{ap, refl}
use Rattle.archive_forms_rc.proofs.Reached.{rc_part}
use Rattle.archive_forms_rc.proofs.parts.rc_value.Goals as goal

pub returns : goal.returns
returns g c =
    rc_part g.L.Flavor.ALLOW_CYCLES g.met.L.Acyclic.acyclic g.T.Portable.shape g.T.Portable.knows c.args.this.now.bytes.now c.args.this.now.pos
    (ap (λ b. b.now) c.get.ensures.bytes) refl c.requires c.get.ensures.value
