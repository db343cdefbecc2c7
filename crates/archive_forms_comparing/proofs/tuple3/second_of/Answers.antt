use Rattle.std.proofs.Common.{ap, [], ◌∷◌}
use Rattle.archive_forms_values.specs.Fields.{field, all_three}
use Rattle.archive_forms_comparing.proofs.Ordered.{second_part}
use Rattle.archive_forms_comparing.proofs.tuple3.second_of.Goals as goal

pub returns : goal.returns
returns g c =
    second_part (field g.A.Portable.shape g.A.Portable.knows) (field g.B.Portable.shape g.B.Portable.knows) (field g.C.Portable.shape g.C.Portable.knows ∷ []) (all_three g.A.Portable.knows g.B.Portable.knows g.C.Portable.knows) c.args.this.now.bytes.now c.args.this.now.pos
    (ap (λ b. b.now) c.second.ensures.bytes) c.second.ensures.pos c.requires c.second.ensures.value
