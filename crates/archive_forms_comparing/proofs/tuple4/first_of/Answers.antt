use Rattle.std.proofs.Common.{ap, [], ◌∷◌}
use Rattle.archive_forms_values.specs.Fields.{field, all_four}
use Rattle.archive_forms_comparing.proofs.Ordered.{first_part}
use Rattle.archive_forms_comparing.proofs.tuple4.first_of.Goals as goal

pub returns : goal.returns
returns g c =
    first_part (field g.A.Portable.shape g.A.Portable.knows) (field g.B.Portable.shape g.B.Portable.knows ∷ (field g.C.Portable.shape g.C.Portable.knows ∷ (field g.D.Portable.shape g.D.Portable.knows ∷ []))) (all_four g.A.Portable.knows g.B.Portable.knows g.C.Portable.knows g.D.Portable.knows) c.args.this.now.bytes.now c.args.this.now.pos
    (ap (λ b. b.now) c.first.ensures.bytes) c.first.ensures.pos c.requires c.first.ensures.value
